use Rattle.std.proofs.Common.{◌≡◌, drop}
use Rattle.hsr_certify.specs.Firsts.{first_send}
use Rattle.hsr_certify.specs.Tests.{is_brief}
use Rattle.hsr_certify.proofs.rising.first_late.Given as goal

abbrev pub invariant-loop-i : goal.invariant-loop-i
invariant-loop-i l = first_send (is_brief l.orders) (drop l.i l.spans) ≡ first_send (is_brief l.orders) l.spans
