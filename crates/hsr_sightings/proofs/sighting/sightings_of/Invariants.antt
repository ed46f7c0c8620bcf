use Rattle.std.proofs.Common.{◌≡◌, ℕ, ◌≤◌}
use Rattle.std.specs.Prelude.{slice_get}
use Rattle.hsr_frame_groups.specs.Frames.{frame_time}
use Rattle.hsr_recent_table.specs.Ready.{HaveCome}
use Rattle.hsr_sightings.specs.Finding.{AreFound}
use Rattle.hsr_sightings.proofs.Gathering.{sighting_keys}
use Rattle.hsr_sightings.proofs.sighting.sightings_of.Given as goal

-- the copies so far have come, and have their sightings; of those that are left the copies that began their frames are told
abbrev pub invariant-loop-i : goal.invariant-loop-i
invariant-loop-i l = record {
  come : HaveCome frame_time (sighting_keys l.ring l.copies l.fn.firsts.items) l.i l.previous;
  found : AreFound l.ring l.copies l.i l.found.all.items l.found.of_copy.items l.found.begun.items;
  left : (k : ℕ) → l.i ≤ k → slice_get l.found.of_copy.items k ≡ slice_get l.fn.firsts.items k;
}
