use Rattle.std.proofs.Common.{◌≡◌, drop}
use Rattle.hsr_certify.specs.Tests.{first_back}
use Rattle.hsr_certify.proofs.rising.first_back.Given as goal

abbrev pub invariant-loop-i : goal.invariant-loop-i
invariant-loop-i l = first_back l.moment l.i (drop l.i l.orders) ≡ first_back 0 0 l.orders
