use Rattle.std.proofs.Common.{◌≡◌, ℕ, ◌<◌, ◌≤◌, length, Some}
use Rattle.std.specs.Prelude.{slice_get}
use Rattle.hsr_frame_groups.specs.Frames.{CaughtFields, frame_time, past_of}
use Rattle.hsr_recent_table.specs.Ready.{HaveCome}
use Rattle.hsr_sightings.specs.Copies.{carried_before}
use Rattle.hsr_sightings.proofs.Carrying.{carried_keys}
use Rattle.hsr_sightings.proofs.again.counts_of.Given as goal

-- each copy so far has come and is counted, and no count is greater than its place
abbrev pub invariant-loop-i : goal.invariant-loop-i
invariant-loop-i l = record {
  long : length l.counts.items ≡ l.i;
  come : HaveCome frame_time (carried_keys l.copies l.firsts) l.i l.previous;
  each : (k : ℕ) (c : CaughtFields) → k < l.i → slice_get l.copies k ≡ Some c → slice_get l.counts.items k ≡ Some (carried_before (past_of l.copies k) c);
  small : (k n : ℕ) → slice_get l.counts.items k ≡ Some n → n ≤ k;
}
