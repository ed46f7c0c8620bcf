use Rattle.std.proofs.Common.{◌≡◌, ◌++◌, drop}
use Rattle.hsr_judging.specs.Fates.{observed_fates, observed_from}
use Rattle.hsr_judging.specs.Matching.{views}
use Rattle.hsr_judging.proofs.fates.observed_fates.Given as goal

-- the fates so far and those of what is left are all fates
abbrev pub invariant-loop-k : goal.invariant-loop-k
invariant-loop-k l =
    l.fates.items ++ observed_from l.device l.gots l.jumps l.k (views (drop l.k l.observed)) ≡ observed_fates l.device (views l.observed) l.gots l.jumps
