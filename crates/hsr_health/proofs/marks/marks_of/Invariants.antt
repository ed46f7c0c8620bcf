use Rattle.std.proofs.Common.{◌≡◌, ℕ, ◌<◌, length, Some}
use Rattle.std.specs.Prelude.{slice_get}
use Rattle.hsr_frame_groups.specs.Frames.{CaughtFields, past_of}
use Rattle.hsr_health.specs.Counted.{mark_but_late}
use Rattle.hsr_taps.specs.Tallies.{is_at}
use Rattle.hsr_health.proofs.marks.marks_of.Given as goal

-- of each copy so far what is counted
abbrev pub invariant-loop-i : goal.invariant-loop-i
invariant-loop-i l = record {
  long : length l.marks.items ≡ l.i;
  each : (k : ℕ) (c : CaughtFields) → k < l.i → slice_get l.copies k ≡ Some c → slice_get l.marks.items k ≡ Some (mark_but_late (is_at l.is_by_lane) l.ring (past_of l.copies k) c);
}
