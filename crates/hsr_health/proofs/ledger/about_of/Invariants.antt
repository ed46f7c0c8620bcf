use Rattle.std.proofs.Common.{◌≡◌, None, take}
use Rattle.std.specs.Prelude.{find}
use Rattle.hsr_frame.specs.Address.{is_same_address}
use Rattle.hsr_health.proofs.ledger.about_of.Given as goal

-- none so far is about it
abbrev pub invariant-loop-about : goal.invariant-loop-about
invariant-loop-about l = find (λ about. is_same_address about.mac l.mac) (take l.about-index l.abouts) ≡ None
