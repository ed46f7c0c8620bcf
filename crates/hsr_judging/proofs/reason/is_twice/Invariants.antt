use Rattle.std.proofs.Common.{◌≡◌, drop}
use Rattle.std.specs.Prelude.{reverse}
use Rattle.hsr_judging.specs.Matching.{views}
use Rattle.hsr_judging.specs.Reasons.{twice_from}
use Rattle.hsr_judging.proofs.reason.is_twice.Given as goal

-- what is left answers for all
abbrev pub invariant-loop-j : goal.invariant-loop-j
invariant-loop-j l = twice_from l.copy (drop l.j (reverse (views l.earlier))) ≡ twice_from l.copy (reverse (views l.earlier))
