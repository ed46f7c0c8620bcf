use Rattle.hsr_routes.specs.Routes.{bare, heading, sender_at}
use Rattle.hsr_faults.proofs.Going.{AreFollowingBelow}
use Rattle.hsr_faults.proofs.onward.following.Given as goal

abbrev pub invariant-loop-number : goal.invariant-loop-number
invariant-loop-number l = AreFollowingBelow (bare l.topology.places l.topology.links) (sender_at l.frame.sender) (heading l.frame.dst l.frame.kind) l.from l.number l.set.words
