use Rattle.std.proofs.Common.{◌≡◌, ◌++◌, drop}
use Rattle.hsr_judging.specs.Fates.{expected_fates, expected_from}
use Rattle.hsr_judging.proofs.fates.expected_fates.Given as goal

-- the fates so far and those of what is left are all fates
abbrev pub invariant-loop-i : goal.invariant-loop-i
invariant-loop-i l =
    l.fates.items ++ expected_from l.device l.last l.alone l.i (drop l.i l.expected) ≡ expected_fates l.device l.last l.expected l.alone
