use Rattle.std.proofs.Common.{◌≡◌, ℕ, ◌<◌, length, map, Some}
use Rattle.std.specs.Prelude.{slice_get}
use Rattle.hsr_frame_groups.specs.Frames.{CaughtFields, frame_time, past_of}
use Rattle.hsr_recent_table.specs.Ready.{HaveCome}
use Rattle.hsr_sightings.specs.Clash.{copy_key}
use Rattle.hsr_sightings.specs.Copies.{is_clash}
use Rattle.hsr_sightings.proofs.clash.clashes_of.Given as goal

-- each copy so far has come, and it is told whether it clashes
abbrev pub invariant-loop-i : goal.invariant-loop-i
invariant-loop-i l = record {
  long : length l.clashes.items ≡ l.i;
  come : HaveCome frame_time (map copy_key l.copies) l.i l.previous;
  each : (k : ℕ) (c : CaughtFields) → k < l.i → slice_get l.copies k ≡ Some c → slice_get l.clashes.items k ≡ Some (is_clash (past_of l.copies k) c);
}
