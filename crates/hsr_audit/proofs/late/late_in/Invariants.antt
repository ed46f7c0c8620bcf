use Rattle.hsr_audit.specs.Timed.{InTimeBelow}
use Rattle.hsr_audit.proofs.late.late_in.Given as goal

abbrev pub invariant-loop-place : goal.invariant-loop-place
invariant-loop-place g l = InTimeBelow l.closed.run l.fn.node l.place
