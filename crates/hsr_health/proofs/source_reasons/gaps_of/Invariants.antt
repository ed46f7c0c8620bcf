use Rattle.std.proofs.Common.{◌≡◌, take}
use Rattle.std.specs.Prelude.{filter}
use Rattle.hsr_taps.specs.Tallies.{is_at}
use Rattle.hsr_health.proofs.source_reasons.gaps_of.Given as goal

-- those so far
abbrev pub invariant-loop-gap : goal.invariant-loop-gap
invariant-loop-gap l = l.own.items ≡ filter (λ g. is_at l.counted g.group) (take l.gap-index l.gaps)
