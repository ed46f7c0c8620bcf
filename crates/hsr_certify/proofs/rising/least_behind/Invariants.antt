use Rattle.std.proofs.Common.{◌≡◌, length}
use Rattle.hsr_certify.specs.Tests.{least_behind}
use Rattle.hsr_certify.proofs.rising.least_behind.Given as goal

abbrev pub invariant-loop-order : goal.invariant-loop-order
invariant-loop-order l = least_behind l.least l.moment l.rest ≡ least_behind l.start l.start l.steps

abbrev pub decreases-loop-order : goal.decreases-loop-order
decreases-loop-order l = length l.rest
