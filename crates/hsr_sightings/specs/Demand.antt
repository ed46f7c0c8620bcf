-- How many frames a table has to hold, one copy after the other.
use Rattle.std.specs.Prelude.{ℕ, ◌≡◌, ◌+◌, ◌-◌, ◌^◌, ◌==◌, ◌||◌, max, min, nat_le, if◌then◌else◌, List, length, slice_get, slice_index, slice_set, Some}
use Rattle.hsr_frame_groups.specs.Frames.{CaughtFields, past_of}
use Rattle.hsr_sightings.specs.Copies.{begun_at, needed}
use Rattle.hsr_sightings.specs.Read.{most_in}
use Rattle.hsr_sightings.specs.Ring.{Ring, forget_time}
use Rattle.hsr_sightings.specs.Fields.{Sighting}

-- one more frame began at a point
abbrev pub one_more : List ℕ → ℕ → List ℕ
one_more counts point = slice_set counts point (min (slice_index counts point + 1) (2 ^ 64 - 1))

-- at a point so many were needed
abbrev pub at_least : List ℕ → ℕ → ℕ → List ℕ
at_least most point n = slice_set most point (max (slice_index most point) n)

-- how many frames began at each point, with the copy at an index
abbrev pub begun_with : List ℕ → Sighting → ℕ → List ℕ
begun_with begun seen i = if seen.first == i then one_more begun seen.point else begun

-- the most that were needed at each point, with the copy at an index
abbrev pub needed_with : List ℕ → List ℕ → Sighting → ℕ → ℕ → List ℕ
needed_with begun needed seen at i =
    if (seen.first == i) || nat_le forget_time (at - seen.at) then needed else at_least needed seen.point (slice_index begun seen.point - seen.order)

-- of each point how many frames began there before an index, and the most that were needed
pub record IsDemand (ring : Ring) (copies : List CaughtFields) (i : ℕ) (begun most : List ℕ) : Type 0 where
  pub counts : (point n : ℕ) → slice_get begun point ≡ Some n → n ≡ length (begun_at ring point (past_of copies i))
  pub needs : (point n : ℕ) → slice_get most point ≡ Some n → n ≡ most_in ring point (needed ring) (past_of copies i)
  pub long : length most ≡ length begun
