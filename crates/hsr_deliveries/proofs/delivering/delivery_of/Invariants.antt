use Rattle.std.proofs.Common.{◌≡◌}
use Rattle.hsr_deliveries.specs.Delivered.{delivery_below}
use Rattle.hsr_deliveries.proofs.delivering.delivery_of.Given as goal

abbrev pub invariant-loop-node : goal.invariant-loop-node
invariant-loop-node g l = l.delivery ≡ delivery_below l.traces l.fn.send l.fn.at l.fn.dst l.fn.ethertype l.node
