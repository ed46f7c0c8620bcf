use Rattle.std.proofs.Common.{◌≡◌, ℕ, List, length, map}
use Rattle.std.specs.List.{range_with_len}
use Rattle.hsr_frame_groups.specs.Frames.{CaughtFields}
use Rattle.hsr_health.specs.Counted.{AreOfPoints}
use Rattle.hsr_sightings.specs.Read.{AreNeeded, AreSightings}
use Rattle.hsr_sightings.specs.Ring.{Ring}
use Rattle.hsr_sightings.specs.Sightings.{sees_both_ways}
use Rattle.hsr_health.proofs.directions.points_told.Given as goal

-- those of the points so far
abbrev pub invariant-loop-k : goal.invariant-loop-k
invariant-loop-k l = record {
  long : length l.points.items ≡ l.k;
  points : (ring : Ring) (copies : List CaughtFields) (numbers : List ℕ) → AreSightings ring copies l.sightings numbers → l.both ≡ map (sees_both_ways ring copies) (range_with_len 0 (length l.both))
      → AreNeeded ring copies l.needed → AreOfPoints ring copies l.points.items;
}
