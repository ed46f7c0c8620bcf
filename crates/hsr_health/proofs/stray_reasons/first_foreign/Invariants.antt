use Rattle.std.proofs.Common.{◌≡◌, None, take}
use Rattle.std.specs.Prelude.{find}
use Rattle.hsr_health.specs.Told.{is_foreign}
use Rattle.hsr_health.proofs.stray_reasons.first_foreign.Given as goal

-- none so far is such
abbrev pub invariant-loop-stray : goal.invariant-loop-stray
invariant-loop-stray l = find is_foreign (take l.stray-index l.strays) ≡ None
