use Rattle.std.proofs.Common.{◌≡◌, map}
use Rattle.std.specs.List.{range_with_len}
use Rattle.hsr_sightings.specs.Sightings.{sees_both_ways}
use Rattle.hsr_health.proofs.broken.both_ways_of.Given as goal

-- those of the points so far
abbrev pub invariant-loop-point : goal.invariant-loop-point
invariant-loop-point l = l.both.items ≡ map (sees_both_ways l.ring l.copies) (range_with_len 0 l.point)
