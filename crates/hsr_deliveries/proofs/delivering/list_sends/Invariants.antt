use Rattle.std.proofs.Common.{◌≡◌}
use Rattle.hsr_deliveries.specs.Delivered.{deliveries_below}
use Rattle.hsr_deliveries.proofs.delivering.list_sends.Given as goal

abbrev pub invariant-loop-node : goal.invariant-loop-node
invariant-loop-node g l = l.sends.items ≡ deliveries_below l.closed.run l.node
