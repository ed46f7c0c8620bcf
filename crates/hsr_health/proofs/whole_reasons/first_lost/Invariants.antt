use Rattle.std.proofs.Common.{◌≡◌, None, length, take}
use Rattle.std.specs.List.{range_with_len}
use Rattle.std.specs.Prelude.{find, nat_lt}
use Rattle.hsr_health.specs.Told.{lost_at}
use Rattle.hsr_health.proofs.whole_reasons.first_lost.Given as goal

-- none so far lost any
abbrev pub invariant-loop-i : goal.invariant-loop-i
invariant-loop-i l = find (λ i. nat_lt 0 (lost_at l.losses l.is_asked i)) (take l.i (range_with_len 0 (length l.losses))) ≡ None
