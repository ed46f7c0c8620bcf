use Rattle.std.proofs.Common.{◌≡◌, drop}
use Rattle.hsr_certify.specs.Firsts.{first_send}
use Rattle.hsr_certify.specs.Tests.{is_ended}
use Rattle.hsr_certify.proofs.fine.first_unended.Given as goal

abbrev pub invariant-loop-i : goal.invariant-loop-i
invariant-loop-i l = first_send (is_ended l.steps) (drop l.i l.spans) ≡ first_send (is_ended l.steps) l.spans
