use Rattle.std.proofs.Common.{◌≡◌, length, true}
use Rattle.hsr_given.specs.Given.{given_from}
use Rattle.hsr_given.proofs.given.given_from.Given as goal

abbrev pub invariant-loop-octet : goal.invariant-loop-octet
invariant-loop-octet l = given_from l.is_line l.left ≡ given_from true l.text

abbrev pub decreases-loop-octet : goal.decreases-loop-octet
decreases-loop-octet l = length l.left
