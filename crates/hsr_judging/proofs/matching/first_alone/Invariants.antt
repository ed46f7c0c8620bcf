use Rattle.std.proofs.Common.{◌≡◌, drop}
use Rattle.hsr_judging.specs.Matching.{first_alone}
use Rattle.hsr_judging.proofs.matching.first_alone.Given as goal

-- what is left answers for all
abbrev pub invariant-loop-i : goal.invariant-loop-i
invariant-loop-i l =
    first_alone l.turn l.alone l.seen l.i (drop l.i l.expected) ≡ first_alone l.turn l.alone l.seen l.from (drop l.from l.expected)
