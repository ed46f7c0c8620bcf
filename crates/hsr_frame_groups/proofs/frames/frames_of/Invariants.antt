use Rattle.std.proofs.Common.{◌≡◌, ℕ, ◌<◌, List, length}
use Rattle.std.specs.Prelude.{slice_index}
use Rattle.hsr_recent_table.specs.Recent.{Put}
use Rattle.hsr_frame_groups.specs.Frames.{IsFirst, IsReady}
use Rattle.hsr_frame_groups.proofs.frames.frames_of.Given as goal

-- for each copy so far something was put, and the place of its first copy is known
abbrev pub invariant-loop-i : goal.invariant-loop-i
invariant-loop-i l = record {
  ready : (puts : List Put) × IsReady l.copies l.table l.i puts;
  long : length l.firsts.items ≡ l.i;
  each : (k : ℕ) → k < l.i → IsFirst l.copies k (slice_index l.firsts.items k);
}
