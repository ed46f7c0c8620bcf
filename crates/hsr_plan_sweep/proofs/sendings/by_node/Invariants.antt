use Rattle.std.proofs.Common.{◌≡◌}
use Rattle.hsr_plan_sweep.specs.Sendings.{streams_below}
use Rattle.hsr_plan_sweep.proofs.sendings.by_node.Given as goal

abbrev pub invariant-loop-node : goal.invariant-loop-node
invariant-loop-node l = l.streams.items ≡ streams_below l.sendings l.node
