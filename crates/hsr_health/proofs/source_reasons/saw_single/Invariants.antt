use Rattle.std.proofs.Common.{◌≡◌, drop}
use Rattle.hsr_health.specs.Told.{saw_single}
use Rattle.hsr_health.proofs.source_reasons.saw_single.Given as goal

-- if one is such, it is one of those that are left
abbrev pub invariant-loop-k : goal.invariant-loop-k
invariant-loop-k l = saw_single (drop l.k l.groups) (drop l.k l.counts) l.group ≡ saw_single l.groups l.counts l.group
