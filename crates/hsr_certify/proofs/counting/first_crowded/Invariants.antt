use Rattle.std.proofs.Common.{◌≡◌, drop}
use Rattle.hsr_certify.specs.Firsts.{first_send}
use Rattle.hsr_certify.proofs.Standing.{HaveEnded}
use Rattle.hsr_certify.specs.Tests.{is_uncrowded}
use Rattle.hsr_certify.proofs.counting.first_crowded.Given as goal

abbrev pub invariant-loop-i : goal.invariant-loop-i
invariant-loop-i l = (first_send (is_uncrowded l.table l.spans) (drop l.i l.spans) ≡ first_send (is_uncrowded l.table l.spans) l.spans) × HaveEnded l.spans l.low l.i
