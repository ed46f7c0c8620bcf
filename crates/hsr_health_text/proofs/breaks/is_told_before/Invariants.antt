use Rattle.std.proofs.Common.{◌≡◌, false, take}
use Rattle.std.specs.Prelude.{slice_get}
use Rattle.std.specs.List.{list_any}
use Rattle.hsr_health_text.specs.Breaks.{is_before}
use Rattle.hsr_health_text.proofs.breaks.is_told_before.Given as goal

-- none so far is before it
abbrev pub invariant-loop-i : goal.invariant-loop-i
invariant-loop-i l = list_any (λ i. is_before l.base (slice_get l.spans i)) (take l.i-index l.breaks) ≡ false
