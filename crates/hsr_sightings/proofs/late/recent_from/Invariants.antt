use Rattle.std.proofs.Common.{◌≡◌, ℕ, ◌+◌, ◌<◌, ◌≤◌, Some, map}
use Rattle.std.specs.Prelude.{slice_get}
use Rattle.hsr_sightings.specs.Ring.{forget_time}
use Rattle.hsr_sightings.specs.Crowding.{Begun, begun_by}
use Rattle.hsr_sightings.proofs.late.recent_from.Given as goal

-- those so far are old
abbrev pub invariant-loop-k : goal.invariant-loop-k
invariant-loop-k l = (j : ℕ) (b : Begun) → l.from ≤ j → j < l.k → slice_get (map (begun_by l.copies) l.things) j ≡ Some b → b.at + forget_time ≤ l.at
