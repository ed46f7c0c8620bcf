use Rattle.hsr_audit.specs.Missed.{IsLowest, MissedBelow}
use Rattle.hsr_audit.proofs.missed.first_missed.Given as goal

abbrev pub invariant-loop-node : goal.invariant-loop-node
invariant-loop-node g l = IsLowest (MissedBelow l.closed.run l.node) l.lowest
