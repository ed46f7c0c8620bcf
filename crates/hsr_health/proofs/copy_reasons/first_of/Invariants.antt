use Rattle.std.proofs.Common.{◌≡◌, ℕ, ◌<◌, Bool, Some, false}
use Rattle.std.specs.Prelude.{slice_get}
use Rattle.hsr_health.proofs.copy_reasons.first_of.Given as goal

-- none so far is set
abbrev pub invariant-loop-i : goal.invariant-loop-i
invariant-loop-i l = (k : ℕ) (b : Bool) → k < l.i → slice_get l.flags k ≡ Some b → b ≡ false
