use Rattle.std.proofs.Common.{◌≡◌, ◌-◌, ◌^◌, min, sum_by}
use Rattle.std.specs.List.{range_with_len}
use Rattle.hsr_health.specs.Told.{lost_at}
use Rattle.hsr_health.proofs.whole_reasons.lost_among.Given as goal

-- the sum so far
abbrev pub invariant-loop-i : goal.invariant-loop-i
invariant-loop-i l = l.sum ≡ min (sum_by (lost_at l.losses l.is_asked) (range_with_len 0 l.i)) (2 ^ 64 - 1)
