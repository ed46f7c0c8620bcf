use Rattle.hsr_audit.specs.Sends.{IsCoveredAt}
use Rattle.hsr_audit.specs.Placed.{HoldsIn}
use Rattle.hsr_audit.proofs.sends.first_uncovered.Given as goal

abbrev pub invariant-loop-node : goal.invariant-loop-node
invariant-loop-node g l = HoldsIn l.closed.run (IsCoveredAt l.closed.run) l.node
