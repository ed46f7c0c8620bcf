use Rattle.hsr_audit.specs.Sends.{IsCoveredAt}
use Rattle.hsr_audit.specs.Placed.{HoldsBelow}
use Rattle.hsr_audit.proofs.sends.uncovered_in.Given as goal

abbrev pub invariant-loop-place : goal.invariant-loop-place
invariant-loop-place g l = HoldsBelow (IsCoveredAt l.closed.run) l.fn.node l.place
