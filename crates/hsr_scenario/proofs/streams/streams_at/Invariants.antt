use Rattle.std.proofs.Common.{◌≡◌, take, map}
use Rattle.std.specs.List.{flat_map}
use Rattle.hsr_scenario.specs.Streams.{stream_at}
use Rattle.hsr_scenario.proofs.streams.streams_at.Given as goal

abbrev pub invariant-loop-send : goal.invariant-loop-send
invariant-loop-send l = map (λ name. name.items) l.streams.items ≡ flat_map (stream_at l.node) (take l.send-index l.sends)
