use Rattle.hsr_routes.specs.Addressed.{LikeBelow}
use Rattle.hsr_routes.proofs.sides.first_unlike.Given as goal

abbrev pub invariant-loop-l : goal.invariant-loop-l
invariant-loop-l x = LikeBelow x.places x.links x.l
