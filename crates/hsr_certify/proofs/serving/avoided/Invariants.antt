use Rattle.hsr_certify.specs.Served.{AreAvoidedBelow}
use Rattle.hsr_certify.proofs.serving.avoided.Given as goal

abbrev pub invariant-loop-link : goal.invariant-loop-link
invariant-loop-link l = AreAvoidedBelow l.orders l.span l.link l.set
