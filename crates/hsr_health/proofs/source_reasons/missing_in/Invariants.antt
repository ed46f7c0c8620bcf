use Rattle.std.proofs.Common.{◌≡◌, ◌-◌, ◌^◌, min, take}
use Rattle.hsr_health.specs.Told.{missing_in}
use Rattle.hsr_health.proofs.source_reasons.missing_in.Given as goal

-- the sum so far
abbrev pub invariant-loop-gap : goal.invariant-loop-gap
invariant-loop-gap l = l.sum ≡ min (missing_in (take l.gap-index l.gaps)) (2 ^ 64 - 1)
