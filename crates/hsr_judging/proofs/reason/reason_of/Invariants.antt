use Rattle.std.proofs.Common.{◌≡◌, drop}
use Rattle.std.specs.Prelude.{reverse}
use Rattle.hsr_judging.specs.Reasons.{reason_from}
use Rattle.hsr_judging.proofs.reason.reason_of.Given as goal

-- what is left answers for all
abbrev pub invariant-loop-j : goal.invariant-loop-j
invariant-loop-j l =
    reason_from l.passages l.early l.copy (drop l.j (reverse l.answers)) ≡ reason_from l.passages l.early l.copy (reverse l.answers)
