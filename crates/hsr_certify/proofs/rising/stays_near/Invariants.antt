use Rattle.std.proofs.Common.{◌≡◌, ◌+◌, length}
use Rattle.hsr_certify.specs.Tests.{stays_below}
use Rattle.hsr_certify.proofs.rising.stays_near.Given as goal

abbrev pub invariant-loop-order : goal.invariant-loop-order
invariant-loop-order l = stays_below (l.least + l.limit) l.moment l.rest ≡ stays_below (l.least + l.limit) l.start l.steps

abbrev pub decreases-loop-order : goal.decreases-loop-order
decreases-loop-order l = length l.rest
