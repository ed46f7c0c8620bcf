use Rattle.std.proofs.Common.{◌≡◌}
use Rattle.hsr_latency.specs.Taken.{taken_below}
use Rattle.hsr_latency.proofs.taken.taken_by.Given as goal

abbrev pub invariant-loop-node : goal.invariant-loop-node
invariant-loop-node g l = l.list.items ≡ taken_below l.closed.run l.node
