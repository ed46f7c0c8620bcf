use Rattle.std.proofs.Common.{◌≡◌, drop}
use Rattle.hsr_certify.specs.Firsts.{first_step}
use Rattle.hsr_certify.specs.Tests.{is_coarse}
use Rattle.hsr_certify.proofs.fine.first_fine.Given as goal

abbrev pub invariant-loop-i : goal.invariant-loop-i
invariant-loop-i l = first_step is_coarse l.i (drop l.i l.orders) ≡ first_step is_coarse 0 l.orders
