use Rattle.std.proofs.Common.{◌≡◌, not, take}
use Rattle.std.specs.Prelude.{filter}
use Rattle.hsr_health.specs.Told.{is_told}
use Rattle.hsr_health.proofs.silent_reason.untold.Given as goal

-- those so far
abbrev pub invariant-loop-mac : goal.invariant-loop-mac
invariant-loop-mac l = l.untold.items ≡ filter (λ mac. not (is_told l.abouts mac)) (take l.mac-index l.macs)
