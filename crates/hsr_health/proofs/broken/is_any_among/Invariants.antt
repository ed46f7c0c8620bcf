use Rattle.std.proofs.Common.{◌≡◌, false, take}
use Rattle.std.specs.List.{list_any}
use Rattle.hsr_frame.specs.Address.{is_among}
use Rattle.hsr_health.proofs.broken.is_any_among.Given as goal

-- none so far is among them
abbrev pub invariant-loop-mac : goal.invariant-loop-mac
invariant-loop-mac l = list_any (λ mac. is_among l.others mac) (take l.mac-index l.macs) ≡ false
