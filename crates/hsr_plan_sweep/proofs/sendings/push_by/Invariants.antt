use Rattle.std.proofs.Common.{◌≡◌, ◌++◌, take}
use Rattle.std.specs.List.{flat_map}
use Rattle.hsr_plan_sweep.specs.Sendings.{stream_at}
use Rattle.hsr_plan_sweep.proofs.sendings.push_by.Given as goal

abbrev pub invariant-loop-sending : goal.invariant-loop-sending
invariant-loop-sending l = l.streams.items ≡ l.initial.streams.items ++ flat_map (stream_at l.node) (take l.sending-index l.sendings)
