use Rattle.std.proofs.Common.{take}
use Rattle.hsr_health.specs.ByKey.{AreCountsOf}
use Rattle.hsr_health.proofs.by_key.counts_of.Given as goal

-- the numbers so far are counted
abbrev pub invariant-loop-i : goal.invariant-loop-i
invariant-loop-i l = AreCountsOf (take l.i l.sorted) l.counts.items
