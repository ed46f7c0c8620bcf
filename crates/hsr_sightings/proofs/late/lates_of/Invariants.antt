use Rattle.std.proofs.Common.{◌≡◌, ℕ, ◌<◌, length, Some}
use Rattle.std.specs.Prelude.{slice_get}
use Rattle.hsr_frame_groups.specs.Frames.{CaughtFields, past_of}
use Rattle.hsr_sightings.specs.Copies.{is_late}
use Rattle.hsr_sightings.specs.Read.{AreSightings}
use Rattle.hsr_sightings.specs.Ring.{Ring}
use Rattle.hsr_sightings.proofs.late.lates_of.Given as goal

-- of each copy so far it is told whether it is late
abbrev pub invariant-loop-i : goal.invariant-loop-i
invariant-loop-i l = record {
  long : length l.told.items ≡ l.i;
  each : (ring : Ring) → AreSightings ring l.copies l.sightings l.of_copy
      → (k : ℕ) (c : CaughtFields) → k < l.i → slice_get l.copies k ≡ Some c → slice_get l.told.items k ≡ Some (is_late ring (past_of l.copies k) c);
}
