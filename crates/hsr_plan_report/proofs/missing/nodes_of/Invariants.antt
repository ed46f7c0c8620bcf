use Rattle.std.proofs.Common.{◌≡◌}
use Rattle.hsr_bitset.specs.Numbers.{has}
use Rattle.hsr_deliveries.specs.Delivered.{nodes_below}
use Rattle.hsr_plan_report.proofs.missing.nodes_of.Given as goal

abbrev pub invariant-loop-node : goal.invariant-loop-node
invariant-loop-node l = l.list.items ≡ nodes_below l.node (has l.set)
