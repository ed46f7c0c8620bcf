use Rattle.std.proofs.Common.{◌≡◌, take}
use Rattle.hsr_health.specs.Whole.{greatest}
use Rattle.hsr_health.proofs.measured.greatest.Given as goal

-- the greatest so far
abbrev pub invariant-loop-n : goal.invariant-loop-n
invariant-loop-n l = l.most ≡ greatest (take l.n-index l.numbers)
