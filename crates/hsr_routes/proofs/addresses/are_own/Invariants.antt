use Rattle.hsr_routes.specs.Addressed.{OwnBelow}
use Rattle.hsr_routes.proofs.addresses.are_own.Given as goal

abbrev pub invariant-loop-k : goal.invariant-loop-k
invariant-loop-k l = OwnBelow l.places l.k
