use Rattle.hsr_routes.proofs.Ending.{AreEndsBelow}
use Rattle.hsr_routes.proofs.search.Routes.ends.Given as goal

abbrev pub invariant-loop-number : goal.invariant-loop-number
invariant-loop-number l = AreEndsBelow l.fn.self l.fn.found l.nodes l.number
