use Rattle.std.proofs.Common.{◌≡◌, ◌≤◌, length}
use Rattle.hsr_certify.specs.Tests.{rises_less}
use Rattle.hsr_certify.proofs.rising.rises_less.Given as goal

abbrev pub invariant-loop-order : goal.invariant-loop-order
invariant-loop-order l = (rises_less l.limit l.least l.moment l.rest ≡ rises_less l.limit l.start l.start l.steps) × (l.least ≤ l.moment)

abbrev pub decreases-loop-order : goal.decreases-loop-order
decreases-loop-order l = length l.rest
