use Rattle.hsr_routes.specs.Routes.{bare, heading, sender_at}
use Rattle.hsr_routes.specs.Numbered.{is_in}
use Rattle.hsr_routes.specs.Spread.{IsFront, left_over}
use Rattle.hsr_faults.proofs.search.search.Given as goal

abbrev pub invariant-loop-number : goal.invariant-loop-number
invariant-loop-number l = IsFront (bare l.topology.places l.topology.links) (sender_at l.frame.sender) (heading l.frame.dst l.frame.kind) (is_in l.avoid.words) l.front.found.words l.front.waiting.words

abbrev pub decreases-loop-number : goal.decreases-loop-number
decreases-loop-number l = left_over l.front.found.words l.front.waiting.words
