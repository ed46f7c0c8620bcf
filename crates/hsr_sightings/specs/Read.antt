-- What is known of the copies of a capture, and how lists tell of each of them.
--     AreRead          copies in the order of time, each of its own packet, with the place of the copy that began its frame
--     TellsEach        a list that has of each copy what those before it tell
--     AreOvertaken     the copies that were overtaken, in the order of time
--     AreSightings     each frame at each point that saw it, in the order of first copies
--     IsMost           the most that is told of a copy at a point
use Rattle.std.specs.Prelude.{ℕ, ◌≡◌, ◌+◌, ◌<◌, ◌^◌, true, if◌then◌else◌, List, [], ◌∷◌, ◌++◌, length, option_to_list, filter, reverse, slice_get, slice_index, Option, Some, None, option_map}
use Rattle.hsr_frame_groups.specs.Frames.{AreFirst, AreInTime, CaughtFields, past_of}
use Rattle.hsr_sightings.specs.Copies.{begins_there, begun_at, crowd, first_crowded, is_overtaken, most_of, needed, top_before}
use Rattle.hsr_sightings.specs.Frames.{frame_of}
use Rattle.hsr_sightings.specs.Ring.{Ring, goes, is_at, point_of}
use Rattle.hsr_sightings.specs.Sightings.{first_seen, is_more, sighting}
use Rattle.hsr_sightings.specs.declared.late.Crowd.{Crowd}
use Rattle.hsr_sightings.specs.declared.overtaken.Overtaken.{Overtaken}
use Rattle.hsr_sightings.specs.Fields.{Sighting}

-- ---- copies

-- no two copies are of one packet
abbrev pub HaveOwnNumbers : List CaughtFields → Type 0
HaveOwnNumbers copies = (i j : ℕ) (b c : CaughtFields) → slice_get copies i ≡ Some b → slice_get copies j ≡ Some c → b.packet ≡ c.packet → i ≡ j

pub record AreRead (copies : List CaughtFields) (firsts : List ℕ) : Type 0 where
  pub time : AreInTime copies
  pub few : length copies < 2 ^ 32
  pub numbers : HaveOwnNumbers copies
  pub directions : (i : ℕ) (c : CaughtFields) → slice_get copies i ≡ Some c → c.direction < 320
  pub frames : AreFirst copies firsts

-- there are 64 points at most
abbrev pub HasPlaces : Ring → Type 0
HasPlaces ring = (direction : ℕ) → slice_index ring.points direction < 64

-- each way is 0 or 1
abbrev pub HasWays : Ring → Type 0
HasWays ring = (direction : ℕ) → slice_index ring.ways direction < 2

-- ---- what is told of each

pub record TellsEach {X : Type 0} (tell : List CaughtFields → CaughtFields → X) (copies : List CaughtFields) (told : List X) : Type 0 where
  pub each : (i : ℕ) (c : CaughtFields) → slice_get copies i ≡ Some c → slice_get told i ≡ Some (tell (past_of copies i) c)
  pub long : length told ≡ length copies

-- a copy that was overtaken, by its index, and the number that it is behind
abbrev pub overtaken_at : ℕ → List CaughtFields → CaughtFields → Option Overtaken
overtaken_at i past c = if is_overtaken past c then option_map (λ top. record { copy = i; behind = top.copy.seq }) (top_before past c) else None

-- those of the copies from an index on
abbrev pub overtaken_from : List CaughtFields → ℕ → List CaughtFields → List Overtaken
overtaken_from copies i [] = []
overtaken_from copies i (c ∷ rest) = option_to_list (overtaken_at i (past_of copies i) c) ++ overtaken_from copies (i + 1) rest

abbrev pub AreOvertaken : List CaughtFields → List Overtaken → Type 0
AreOvertaken copies found = found ≡ overtaken_from copies 0 copies

-- ---- sightings

-- the moments of a sighting's first copies on a way
abbrev pub first_by : Ring → ℕ → List CaughtFields → Option ℕ
first_by ring way seen = option_map (λ c. c.at) (first_seen (filter (goes ring way) seen))

-- a sighting that the copy at a place begins, with those of these copies, the latest first, that are of its frame at its point
pub record IsSighting (ring : Ring) (copies seen : List CaughtFields) (i : ℕ) (c : CaughtFields) (s : Sighting) : Type 0 where
  pub first : s.first ≡ i
  pub at : s.at ≡ c.at
  pub point : s.point ≡ point_of ring c
  pub order : s.order ≡ length (begun_at ring (point_of ring c) (past_of copies i))
  pub by_0 : s.by_0 ≡ first_by ring 0 (sighting ring seen (frame_of (past_of copies i) c) (point_of ring c))
  pub by_1 : s.by_1 ≡ first_by ring 1 (sighting ring seen (frame_of (past_of copies i) c) (point_of ring c))
  pub is_more : s.is_more ≡ is_more (sighting ring seen (frame_of (past_of copies i) c) (point_of ring c))

-- a sighting was begun by a copy, whose frame hadn't come to its point before
pub record IsBegun (ring : Ring) (copies seen : List CaughtFields) (s : Sighting) : Type 0 where
  pub copy : CaughtFields
  pub there : slice_get copies s.first ≡ Some copy
  pub begins : begins_there ring (past_of copies s.first) copy ≡ true
  pub is : IsSighting ring copies seen s.first copy s

-- two copies are of one frame at one point
pub record IsSameSighting (ring : Ring) (copies : List CaughtFields) (i j : ℕ) (b c : CaughtFields) : Type 0 where
  pub frame : frame_of (past_of copies i) b ≡ frame_of (past_of copies j) c
  pub point : point_of ring b ≡ point_of ring c

-- the sighting with a number is that of the frame of the copy at a place, at its point
pub record IsSightingOf (ring : Ring) (copies : List CaughtFields) (all : List Sighting) (j : ℕ) (c : CaughtFields) (k : ℕ) : Type 0 where
  pub seen : Sighting
  pub numbered : slice_get all k ≡ Some seen
  pub copy : CaughtFields
  pub there : slice_get copies seen.first ≡ Some copy
  pub same : IsSameSighting ring copies seen.first j copy c

-- sightings stand in the order of the copies that began them
abbrev pub Rise : List Sighting → Type 0
Rise all = (j k : ℕ) (s t : Sighting) → j < k → slice_get all j ≡ Some s → slice_get all k ≡ Some t → s.first < t.first

-- Each sighting was begun by a copy, they stand in the order of these, and of each copy the sighting of its frame at its point is told.
pub record AreSightings (ring : Ring) (copies : List CaughtFields) (all : List Sighting) (of_copy : List ℕ) : Type 0 where
  pub each : (k : ℕ) (s : Sighting) → slice_get all k ≡ Some s → IsBegun ring copies (reverse copies) s
  pub order : Rise all
  pub own : (j : ℕ) (c : CaughtFields) → slice_get copies j ≡ Some c → (k : ℕ) × (slice_get of_copy j ≡ Some k) × IsSightingOf ring copies all j c k
  pub long : length of_copy ≡ length copies

-- ---- tables

-- the most that is told of a copy at a point, by a past
abbrev pub most_in : Ring → ℕ → (List CaughtFields → CaughtFields → ℕ) → List CaughtFields → ℕ
most_in ring point amount past = most_of (λ before c. if is_at ring point c then amount before c else 0) past

abbrev pub most_at : Ring → ℕ → (List CaughtFields → CaughtFields → ℕ) → List CaughtFields → ℕ
most_at ring point amount copies = most_in ring point amount (reverse copies)

-- of each point, how many frames a table has to hold so that it knows those of all copies
abbrev pub AreNeeded : Ring → List CaughtFields → List ℕ → Type 0
AreNeeded ring copies found = (point n : ℕ) → slice_get found point ≡ Some n → n ≡ most_at ring point (needed ring) copies

-- the first copy at a point up to which so many frames began there in 400 ms, and the first of these
pub record IsFull (ring : Ring) (copies : List CaughtFields) (point : ℕ) (found : Crowd) : Type 0 where
  pub last : ℕ
  pub copy : CaughtFields
  pub there : slice_get copies last ≡ Some copy
  pub place : point_of ring copy ≡ point
  pub frames : crowd ring (past_of copies last) copy ≡ found.frames
  pub sooner : (k : ℕ) (c : CaughtFields) → k < last → slice_get copies k ≡ Some c → point_of ring c ≡ point → crowd ring (past_of copies k) c < found.frames
  pub first : slice_get copies found.first ≡ Some (first_crowded ring (past_of copies last) copy)

-- of a point, the most frames that began there in any 400 ms, and the copy that begins the first such
pub record IsCrowd (ring : Ring) (copies : List CaughtFields) (point : ℕ) (found : Crowd) : Type 0 where
  pub frames : found.frames ≡ most_at ring point (crowd ring) copies
  pub full : 0 < found.frames → IsFull ring copies point found

abbrev pub AreCrowds : Ring → List CaughtFields → List Crowd → Type 0
AreCrowds ring copies found = (point : ℕ) (own : Crowd) → slice_get found point ≡ Some own → IsCrowd ring copies point own
