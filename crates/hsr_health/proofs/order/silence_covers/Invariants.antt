use Rattle.std.proofs.Common.{◌≡◌, false, take}
use Rattle.std.specs.List.{list_any}
use Rattle.hsr_health.specs.Order.{began_in}
use Rattle.hsr_health.proofs.order.silence_covers.Given as goal

-- none so far covers one
abbrev pub invariant-loop-silence : goal.invariant-loop-silence
invariant-loop-silence l = list_any (λ s. began_in l.spans s.from s.until) (take l.silence-index l.silences) ≡ false
