use Rattle.hsr_audit.specs.Reaching.{ServedBelow}
use Rattle.hsr_audit.proofs.cutoff.Reach.first_unserved.Given as goal

abbrev pub invariant-loop-node : goal.invariant-loop-node
invariant-loop-node g l = ServedBelow l.fn.self l.fn.send l.fn.frame l.node
