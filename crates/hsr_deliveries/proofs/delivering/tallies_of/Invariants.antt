use Rattle.std.proofs.Common.{◌≡◌, take}
use Rattle.hsr_deliveries.proofs.delivering.tallies_of.Given as goal

abbrev pub invariant-loop-node : goal.invariant-loop-node
invariant-loop-node g l = l.tallies.items ≡ take l.node l.closed.run.records
