-- A frame as a point saw it, in the whole capture: its copies there, the latest first.
--     is_twice   on both ways, and no direction carried it twice
--     is_more    a direction carried it twice or more
--     is_once    on one way alone
--     is_open    once, at an edge of the capture, so its other copy may be outside
--     skew       from the first copy on one way to the first on the other
use Rattle.std.specs.Prelude.{ℕ, ◌+◌, ◌-◌, ◌&&◌, ◌||◌, not, nat_lt, Bool, true, false, if◌then◌else◌, List, [], ◌∷◌, filter, count_by, Option, Some, None}
use Rattle.std.specs.List.{list_any}
use Rattle.hsr_frame.specs.Address.{is_group, is_same_address}
use Rattle.hsr_frame_groups.specs.Frames.{CaughtFields}
use Rattle.hsr_sightings.specs.Frames.{copies_of, frame_of}
use Rattle.hsr_sightings.specs.Ring.{Ring, forget_time, goes, is_at, is_in, point_of}
use Rattle.hsr_sightings.specs.Copies.{begins_there, first_of_past}

-- the copies of a frame at a point
abbrev pub sighting : Ring → List CaughtFields → ℕ → ℕ → List CaughtFields
sighting ring copies frame point = filter (is_at ring point) (copies_of frame copies)

abbrev pub came_by : Ring → ℕ → List CaughtFields → Bool
came_by ring way seen = list_any (goes ring way) seen

abbrev pub came_both_ways : Ring → List CaughtFields → Bool
came_both_ways ring seen = came_by ring 0 seen && came_by ring 1 seen

-- a direction carried it twice or more
abbrev pub is_more : List CaughtFields → Bool
is_more [] = false
is_more (c ∷ seen) = list_any (is_in c.direction) seen || is_more seen

abbrev pub is_twice : Ring → List CaughtFields → Bool
is_twice ring seen = came_both_ways ring seen && not (is_more seen)

abbrev pub came_one_way : Ring → List CaughtFields → Bool
came_one_way ring seen = not (came_both_ways ring seen) && not (is_more seen)

-- less than 400 ms after the first packet or before the end
abbrev pub is_at_edge : Ring → CaughtFields → Bool
is_at_edge ring c = not ring.is_whole && (nat_lt (c.at - ring.start) forget_time || nat_lt (ring.end - c.at) forget_time)

-- of a sighting's copies the first
abbrev pub first_seen : List CaughtFields → Option CaughtFields
first_seen [] = None
first_seen (c ∷ seen) = Some (first_of_past c seen)

abbrev pub is_first_at_edge : Ring → List CaughtFields → Bool
is_first_at_edge ring [] = false
is_first_at_edge ring (c ∷ seen) = is_at_edge ring (first_of_past c seen)

abbrev pub is_open : Ring → List CaughtFields → Bool
is_open ring seen = came_one_way ring seen && is_first_at_edge ring seen

abbrev pub is_once : Ring → List CaughtFields → Bool
is_once ring seen = came_one_way ring seen && not (is_first_at_edge ring seen)

-- ---- skews

abbrev pub apart : Option CaughtFields → Option CaughtFields → Option ℕ
apart None b = None
apart (Some a) None = None
apart (Some a) (Some b) = Some ((a.at - b.at) + (b.at - a.at))

-- in nanoseconds
abbrev pub skew : Ring → List CaughtFields → Option ℕ
skew ring seen = apart (first_seen (filter (goes ring 0) seen)) (first_seen (filter (goes ring 1) seen))

-- ---- all sightings

-- a sighting, by the copy that began it
pub record Sighting : Type 0 where
  pub first : CaughtFields
  pub point : ℕ
  pub copies : List CaughtFields

abbrev pub sightings_in : Ring → List CaughtFields → List CaughtFields → List Sighting
sightings_in ring all [] = []
sightings_in ring all (c ∷ past) =
    if begins_there ring past c
    then record { first = c; point = point_of ring c; copies = sighting ring all (frame_of past c) (point_of ring c) } ∷ sightings_in ring all past
    else sightings_in ring all past

-- each frame at each point that saw it, the latest first
abbrev pub sightings : Ring → List CaughtFields → List Sighting
sightings ring copies = sightings_in ring copies copies

abbrev pub is_to_group : Sighting → Bool
is_to_group s = is_group s.first.copy.dst

-- how many of a source's are such, to groups or to single addresses
abbrev pub count_of_source : Ring → List ℕ → Bool → (Ring → List CaughtFields → Bool) → List CaughtFields → ℕ
count_of_source ring source to_group is_such copies =
    count_by (λ s. is_same_address s.first.copy.src source && same (is_to_group s) to_group && is_such ring s.copies) (sightings ring copies)
  where
    same : Bool → Bool → Bool
    same true b = b
    same false b = not b

-- a point's directions carried group frames both ways
abbrev pub sees_both_ways : Ring → List CaughtFields → ℕ → Bool
sees_both_ways ring copies point = sees 0 && sees 1
  where
    sees : ℕ → Bool
    sees way = list_any (λ c. is_at ring point c && goes ring way c && is_group c.copy.dst) copies

-- group frames that came one way alone, where the point sees both
abbrev pub is_one_way : Ring → List CaughtFields → Sighting → Bool
is_one_way ring copies s = is_to_group s && is_once ring s.copies && sees_both_ways ring copies s.point
