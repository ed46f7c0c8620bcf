use Rattle.std.proofs.Common.{◌≡◌, ℕ, ◌<◌, Some, length}
use Rattle.std.specs.Prelude.{slice_get}
use Rattle.hsr_health.specs.Told.{is_marked}
use Rattle.hsr_health.specs.Marks.{Marked}
use Rattle.hsr_health.proofs.copy_reasons.flags_of.Given as goal

-- the flags so far
abbrev pub invariant-loop-i : goal.invariant-loop-i
invariant-loop-i l = record {
  long : length l.flags.items ≡ l.i;
  each : (k n : ℕ) (m : Marked) → k < l.i → slice_get l.carried k ≡ Some n → slice_get l.marks k ≡ Some m → slice_get l.flags.items k ≡ Some (is_marked l.mark n m);
}
