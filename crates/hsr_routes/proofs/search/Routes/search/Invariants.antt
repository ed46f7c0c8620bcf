use Rattle.hsr_routes.specs.Routes.{heading, sender_at}
use Rattle.hsr_routes.specs.Numbered.{is_in}
use Rattle.hsr_routes.specs.Spread.{IsFront, left_over}
use Rattle.hsr_routes.proofs.search.Routes.search.Given as goal

abbrev pub invariant-loop-number : goal.invariant-loop-number
invariant-loop-number l = IsFront l.fn.self (sender_at l.fn.frame.sender) (heading l.fn.frame.dst l.fn.frame.kind) (is_in l.fn.avoid) l.front.found l.front.waiting

abbrev pub decreases-loop-number : goal.decreases-loop-number
decreases-loop-number l = left_over l.front.found l.front.waiting
