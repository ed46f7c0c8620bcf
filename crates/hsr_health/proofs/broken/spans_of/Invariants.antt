use Rattle.std.proofs.Common.{◌≡◌, ℕ, List, length, map}
use Rattle.std.specs.List.{range_with_len}
use Rattle.hsr_health.specs.Broken.{AreRuns, runs_of}
use Rattle.hsr_health.specs.Counted.{AreSources}
use Rattle.hsr_sightings.specs.Read.{AreSightings}
use Rattle.hsr_sightings.specs.Sightings.{sees_both_ways}
use Rattle.hsr_health.proofs.broken.spans_of.Given as goal

-- those of the points so far
abbrev pub invariant-loop-point : goal.invariant-loop-point
invariant-loop-point l = (numbers : List ℕ) → AreSources l.copies l.macs l.of_copy → AreSightings l.ring l.copies l.sightings numbers
    → l.both ≡ map (sees_both_ways l.ring l.copies) (range_with_len 0 (length l.both)) → AreRuns l.ring l.macs (runs_of l.ring l.copies l.point) l.spans.items
