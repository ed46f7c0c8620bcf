use Rattle.std.proofs.Common.{◌≡◌, ℕ, ◌<◌, length, Some}
use Rattle.std.specs.Prelude.{slice_get}
use Rattle.hsr_frame_groups.specs.Frames.{CaughtFields, past_of}
use Rattle.hsr_sightings.specs.Frames.{begins}
use Rattle.hsr_sightings.proofs.clash.begins_of.Given as goal

-- of each copy so far it is told whether it begins a frame
abbrev pub invariant-loop-i : goal.invariant-loop-i
invariant-loop-i l = record {
  long : length l.told.items ≡ l.i;
  each : (k : ℕ) (c : CaughtFields) → k < l.i → slice_get l.copies k ≡ Some c → slice_get l.told.items k ≡ Some (begins (past_of l.copies k) c);
}
