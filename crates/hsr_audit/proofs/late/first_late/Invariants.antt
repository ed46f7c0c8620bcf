use Rattle.hsr_audit.specs.Timed.{AllInTimeBelow}
use Rattle.hsr_audit.proofs.late.first_late.Given as goal

abbrev pub invariant-loop-node : goal.invariant-loop-node
invariant-loop-node g l = AllInTimeBelow l.closed.run l.node
