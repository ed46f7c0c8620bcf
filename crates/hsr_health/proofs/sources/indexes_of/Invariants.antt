use Rattle.std.proofs.Common.{◌≡◌, ℕ, Some, length}
use Rattle.std.specs.Prelude.{slice_get}
use Rattle.hsr_frame_groups.specs.Frames.{CaughtFields}
use Rattle.hsr_health.proofs.sources.indexes_of.Given as goal

-- of each copy so far
abbrev pub invariant-loop-i : goal.invariant-loop-i
invariant-loop-i l = record {
  long : length l.indexes.items ≡ l.i;
  each : (j k : ℕ) (c : CaughtFields) → slice_get l.copies j ≡ Some c → slice_get l.indexes.items j ≡ Some k → slice_get l.macs k ≡ Some c.copy.src;
}
