use Rattle.hsr_audit.proofs.Coming.{NoneLastBelow}
use Rattle.hsr_audit.proofs.cutoff.Reach.comes.Given as goal

abbrev pub invariant-loop-link : goal.invariant-loop-link
invariant-loop-link g l = NoneLastBelow l.fn.self l.fn.send.node l.fn.spread l.fn.node l.link
