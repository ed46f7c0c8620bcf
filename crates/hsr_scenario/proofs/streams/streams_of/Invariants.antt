use Rattle.std.proofs.Common.{◌≡◌, map}
use Rattle.std.specs.List.{range_with_len}
use Rattle.hsr_scenario.specs.Streams.{streams_at}
use Rattle.hsr_scenario.proofs.streams.streams_of.Given as goal

abbrev pub invariant-loop-node : goal.invariant-loop-node
invariant-loop-node l = map (λ list. map (λ name. name.items) list.items) l.streams.items ≡ map (streams_at l.sends) (range_with_len 0 l.node)
