use Rattle.std.proofs.Common.{◌≡◌, false, take}
use Rattle.std.specs.List.{list_any}
use Rattle.hsr_frame.specs.Address.{is_same_address}
use Rattle.hsr_health.proofs.whole_reasons.is_told.Given as goal

-- none so far is about it
abbrev pub invariant-loop-about : goal.invariant-loop-about
invariant-loop-about l = list_any (λ about. is_same_address about.mac l.mac) (take l.about-index l.abouts) ≡ false
