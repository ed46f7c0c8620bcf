use Rattle.std.proofs.Common.{◌≡◌, ◌++◌, drop}
use Rattle.hsr_judging.specs.Judged.{observed_in}
use Rattle.hsr_judging.specs.Matching.{views}
use Rattle.hsr_judging.proofs.judgement.observed_of.Given as goal

-- the copies so far that left, and those of what is left, are all that left
abbrev pub invariant-loop-i : goal.invariant-loop-i
invariant-loop-i l = views l.observed.items ++ observed_in (drop l.i l.passages) ≡ observed_in l.passages
