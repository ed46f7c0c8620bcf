-- What is counted of a source, of a direction and of a point. A past is the list of all copies, the latest first.
--     OfSource        frames, first and last number, clashes, late copies, wrong sizes and lanes, fates and skews
--     OfDirection     copies again, the most copies of a frame, overtaken and late ones, frames that this way hadn't
--     OfPoint         frames, whether it sees both ways, and how many frames a table has to hold
use Rattle.std.specs.Prelude.{ℕ, zero, suc, ◌≡◌, ◌+◌, ◌-◌, ◌/◌, ◌%◌, ◌<◌, ◌^◌, ◌==◌, ◌&&◌, min, nat_le, not, Bool, true, false, if◌then◌else◌, List, [], ◌∷◌, count_by, filter, filter_map, length, reverse, slice_get, slice_index, Option, Some, None, is_some, option_map, unwrap_or}
use Rattle.hsr_address.specs.Numbers.{number_of}
use Rattle.hsr_frame.specs.Address.{is_group, is_same_address}
use Rattle.hsr_frame_copies.specs.Alike.{has_right_size}
use Rattle.hsr_frame_groups.specs.Frames.{CaughtFields, past_of}
use Rattle.hsr_sightings.specs.Copies.{count_copies, first_such, is_again, is_clash, is_late, is_overtaken, most_carried, needed as needed_by, times_before}
use Rattle.hsr_sightings.specs.Frames.{begins}
use Rattle.hsr_sightings.specs.Read.{most_at}
use Rattle.hsr_sightings.specs.Ring.{Ring, is_in, way_of}
use Rattle.hsr_sightings.specs.declared.sighting.Fate.{Fate}
use Rattle.hsr_sightings.specs.declared.sighting.Fate.TheVariants as the_fate
use Rattle.hsr_sightings.specs.Fields as the_sighting
use Rattle.hsr_sightings.specs.Seen.{fate_of, skew_of}
use Rattle.hsr_sightings.specs.Sightings.{Sighting, came_by, is_more, is_once, is_open, is_to_group, is_twice, sees_both_ways, sightings, skew}
use Rattle.hsr_health.specs.declared.counts.Counts.{Counts}
use Rattle.hsr_health.specs.declared.counts.Fates.{Fates}
use Rattle.hsr_health.specs.Marks.{Marked}
use Rattle.hsr_sightings.specs.declared.overtaken.Overtaken.{Overtaken}
use Rattle.hsr_health.specs.declared.directions.Beside.{Beside}
use Rattle.hsr_health.specs.declared.directions.DirectionNumbers.{DirectionNumbers}
use Rattle.hsr_health.specs.declared.directions.PointNumbers.{PointNumbers}
use Rattle.hsr_health.specs.Sources.{IsSourceOf}
use Rattle.hsr_spread.specs.Spreads.{IsSpread}
use Rattle.hsr_spread.specs.declared.spread.Spread.{Spread}
use Rattle.hsr_spread.specs.declared.spread.Told.{Told}

-- ---- a source

abbrev pub is_of : List ℕ → CaughtFields → Bool
is_of source c = is_same_address c.copy.src source

-- how many copies of a source are such
abbrev pub count_of : List ℕ → (List CaughtFields → CaughtFields → Bool) → List CaughtFields → ℕ
count_of source is_such copies = count_copies (λ past c. is_of source c && is_such past c) copies

abbrev pub has_wrong_size : List CaughtFields → CaughtFields → Bool
has_wrong_size past c = not (has_right_size c.copy)

-- a copy whose lane isn't its direction's way, where directions aren't told apart by lane
abbrev pub has_wrong_lane : (ℕ → Bool) → Ring → List CaughtFields → CaughtFields → Bool
has_wrong_lane is_by_lane ring past c = not (is_by_lane c.direction) && not (c.copy.path % 2 == way_of ring c)

-- what is counted of a copy
abbrev pub mark_by : (ℕ → Bool) → Ring → Bool → Bool → Bool → CaughtFields → Marked
mark_by is_by_lane ring began clashes late c = record {
  begins = began;
  is_clash = clashes;
  is_late = late;
  is_wrong_size = not (has_right_size c.copy);
  is_wrong_lane = not (is_by_lane c.direction) && not (c.copy.path % 2 == way_of ring c);
}

abbrev pub mark_of : (ℕ → Bool) → Ring → List CaughtFields → CaughtFields → Marked
mark_of is_by_lane ring past c = mark_by is_by_lane ring (begins past c) (is_clash past c) (is_late ring past c) c

-- the same, as long as it isn't known which copies are late
abbrev pub mark_but_late : (ℕ → Bool) → Ring → List CaughtFields → CaughtFields → Marked
mark_but_late is_by_lane ring past c = mark_by is_by_lane ring (begins past c) (is_clash past c) false c

abbrev pub with_late : Bool → Marked → Marked
with_late late m = record m { is_late = late }

-- the number of the first frame, and of the last one
abbrev pub number_or : Option CaughtFields → ℕ
number_or None = 0
number_or (Some c) = c.copy.seq

abbrev pub first_number : List ℕ → List CaughtFields → ℕ
first_number source copies = number_or (first_such (λ past c. is_of source c && begins past c) copies)

abbrev pub last_number : List ℕ → List CaughtFields → ℕ
last_number source [] = 0
last_number source (c ∷ past) = if is_of source c && begins past c then c.copy.seq else last_number source past

-- ---- counts, one copy after the other

-- who sent frames: each once, in the order of addresses, and of each copy the index of its source
pub record AreSources (copies : List CaughtFields) (macs : List (List ℕ)) (of_copy : List ℕ) : Type 0 where
  pub there : (k : ℕ) (mac : List ℕ) → slice_get macs k ≡ Some mac → IsSourceOf copies mac
  pub rise : (j k : ℕ) (a b : List ℕ) → j < k → slice_get macs j ≡ Some a → slice_get macs k ≡ Some b → number_of a < number_of b
  pub each : (i k : ℕ) (c : CaughtFields) → slice_get copies i ≡ Some c → slice_get of_copy i ≡ Some k → slice_get macs k ≡ Some c.copy.src
  pub once : (j k : ℕ) (mac : List ℕ) → slice_get macs j ≡ Some mac → slice_get macs k ≡ Some mac → j ≡ k
  pub long : length of_copy ≡ length copies

-- a number of 64 bits at most
abbrev pub one_more : ℕ → ℕ
one_more n = min (n + 1) (2 ^ 64 - 1)

abbrev pub more_if : ℕ → Bool → ℕ
more_if n is_so = if is_so then one_more n else n

abbrev pub fates_with : Fates → Fate → Fates
fates_with fates the_fate.Twice = record fates { twice = one_more fates.twice }
fates_with fates the_fate.Once = record fates { once = one_more fates.once }
fates_with fates the_fate.More = record fates { more = one_more fates.more }
fates_with fates the_fate.Open = record fates { «open» = one_more fates.«open» }

-- with one more copy
abbrev pub counts_with : Counts → Marked → ℕ → Counts
counts_with counts marks number = record counts {
  frames = more_if counts.frames marks.begins;
  first = if marks.begins && (counts.frames == 0) then number else counts.first;
  last = if marks.begins then number else counts.last;
  clashes = more_if counts.clashes marks.is_clash;
  late = more_if counts.late marks.is_late;
  size = more_if counts.size marks.is_wrong_size;
  lane = more_if counts.lane marks.is_wrong_lane;
}

-- nothing is counted yet
abbrev pub no_fates : Fates
no_fates = record { twice = 0; once = 0; more = 0; «open» = 0 }

abbrev pub no_counts : Counts
no_counts = record { frames = 0; first = 0; last = 0; clashes = 0; late = 0; size = 0; lane = 0; group = no_fates; single = no_fates; skew = None; lives = 0; unreadable = 0 }

-- what is counted of the copies of a source
abbrev pub counted : (ℕ → Bool) → Ring → Counts → List ℕ → List CaughtFields → Counts
counted is_by_lane ring none source [] = none
counted is_by_lane ring none source (c ∷ past) = let before = counted is_by_lane ring none source past in
    if is_of source c then counts_with before (mark_of is_by_lane ring past c) c.copy.seq else before

-- one of several, changed
abbrev pub changed : {X : Type 0} → (X → X) → ℕ → List X → List X
changed f i [] = []
changed f zero (x ∷ xs) = f x ∷ xs
changed f (suc i) (x ∷ xs) = x ∷ changed f i xs

-- of each source, what is counted of the copies before a place
abbrev pub AreCounted : (ℕ → Bool) → Ring → List CaughtFields → List (List ℕ) → ℕ → List Counts → Type 0
AreCounted is_by_lane ring copies macs i counts =
    (k : ℕ) (mac : List ℕ) (own : Counts) → slice_get macs k ≡ Some mac → slice_get counts k ≡ Some own → own ≡ counted is_by_lane ring no_counts mac (past_of copies i)

-- a sighting is of a source, to groups or to single addresses, and such
abbrev pub same_as : Bool → Bool → Bool
same_as true b = b
same_as false b = not b

abbrev pub is_of_source : Ring → List ℕ → Bool → (Ring → List CaughtFields → Bool) → Sighting → Bool
is_of_source ring source to_group is_such s = is_of source s.first && (same_as (is_to_group s) to_group && is_such ring s.copies)

-- how many of a source's are such
abbrev pub count_of_source : Ring → List ℕ → Bool → (Ring → List CaughtFields → Bool) → List CaughtFields → ℕ
count_of_source ring source to_group is_such copies = count_by (is_of_source ring source to_group is_such) (sightings ring copies)

pub record AreFates (ring : Ring) (source : List ℕ) (to_group : Bool) (copies : List CaughtFields) (fates : Fates) : Type 0 where
  pub twice : fates.twice ≡ count_of_source ring source to_group is_twice copies
  pub once : fates.once ≡ count_of_source ring source to_group is_once copies
  pub more : fates.more ≡ count_of_source ring source to_group (λ ring seen. is_more seen) copies
  pub open_ : fates.«open» ≡ count_of_source ring source to_group is_open copies

-- ---- fates, one sighting after the other

abbrev pub fate_index : Fate → ℕ
fate_index the_fate.Twice = 0
fate_index the_fate.Once = 1
fate_index the_fate.More = 2
fate_index the_fate.Open = 3

abbrev pub is_fate : ℕ → Fate → Bool
is_fate n fate = fate_index fate == n

abbrev pub with_fate : Fate → Bool → Counts → Counts
with_fate fate true counts = record counts { group = fates_with counts.group fate }
with_fate fate false counts = record counts { single = fates_with counts.single fate }

-- a sighting that was kept is of a source, to groups or not, and has a fate
abbrev pub is_seen_of : Ring → List ℕ → Bool → ℕ → the_sighting.Sighting → Option CaughtFields → Bool
is_seen_of ring source to_group n s None = false
is_seen_of ring source to_group n s (Some c) = is_of source c && (same_as (is_group c.copy.dst) to_group && is_fate n (fate_of ring s))

abbrev pub count_kept : Ring → List CaughtFields → List ℕ → Bool → ℕ → List the_sighting.Sighting → ℕ
count_kept ring copies source to_group n seen = count_by (λ s. is_seen_of ring source to_group n s (slice_get copies s.first)) seen

pub record AreKeptFates (ring : Ring) (copies : List CaughtFields) (source : List ℕ) (to_group : Bool) (seen : List the_sighting.Sighting) (fates : Fates) : Type 0 where
  pub twice : fates.twice ≡ count_kept ring copies source to_group 0 seen
  pub once : fates.once ≡ count_kept ring copies source to_group 1 seen
  pub more : fates.more ≡ count_kept ring copies source to_group 2 seen
  pub open_ : fates.«open» ≡ count_kept ring copies source to_group 3 seen

-- counts that differ from others by fates
pub record IsFated (ring : Ring) (copies : List CaughtFields) (source : List ℕ) (before : Counts) (seen : List the_sighting.Sighting) (own : Counts) : Type 0 where
  pub group : AreKeptFates ring copies source true seen own.group
  pub single : AreKeptFates ring copies source false seen own.single
  pub others : own ≡ record before { group = own.group; single = own.single }

abbrev pub AreFated : Ring → List CaughtFields → List (List ℕ) → List Counts → List the_sighting.Sighting → List Counts → Type 0
AreFated ring copies macs old seen new = (k : ℕ) (mac : List ℕ) (before own : Counts) → slice_get macs k ≡ Some mac → slice_get old k ≡ Some before → slice_get new k ≡ Some own
    → IsFated ring copies mac before seen own

abbrev pub HaveNoFates : List (List ℕ) → List Counts → Type 0
HaveNoFates macs counts = (k : ℕ) (mac : List ℕ) (own : Counts) → slice_get macs k ≡ Some mac → slice_get counts k ≡ Some own → (own.group ≡ no_fates) × (own.single ≡ no_fates)

-- counts with skews
abbrev pub with_skew : Option Spread → Counts → Counts
with_skew skew counts = record counts { skew = skew }

pub record IsSkewed (counts : List Counts) (skews : List (Option Spread)) (k : ℕ) (own : Counts) : Type 0 where
  pub before : Counts
  pub skew : Option Spread
  pub counted : slice_get counts k ≡ Some before
  pub told : slice_get skews k ≡ Some skew
  pub is : own ≡ with_skew skew before

abbrev pub AreSkewed : List Counts → List (Option Spread) → List Counts → Type 0
AreSkewed counts skews new = (k : ℕ) (own : Counts) → slice_get new k ≡ Some own → IsSkewed counts skews k own

-- in microseconds
abbrev pub skews_of : Ring → List ℕ → List CaughtFields → List ℕ
skews_of ring source copies = filter_map (λ s. option_map (λ n. n / 1000) (skew ring s.copies)) (filter (λ s. is_of source s.first) (sightings ring copies))

-- what is told of a sighting's source, by the index of that
abbrev pub told_by : List ℕ → the_sighting.Sighting → Option Told
told_by of_copy s = option_map (λ n. record { of = slice_index of_copy s.first; amount = n / 1000 }) (skew_of s)

-- of a source, all but its supervision frames
pub record OfSource (ring : Ring) (is_by_lane : ℕ → Bool) (source : List ℕ) (copies : List CaughtFields) (counts : Counts) : Type 0 where
  pub frames : counts.frames ≡ count_of source begins copies
  pub first : counts.first ≡ first_number source copies
  pub last : counts.last ≡ last_number source copies
  pub clashes : counts.clashes ≡ count_of source is_clash copies
  pub late : counts.late ≡ count_of source (is_late ring) copies
  pub size : counts.size ≡ count_of source has_wrong_size copies
  pub lane : counts.lane ≡ count_of source (has_wrong_lane is_by_lane ring) copies
  pub group : AreFates ring source true copies counts.group
  pub single : AreFates ring source false copies counts.single
  pub skew : IsSpread (skews_of ring source copies) counts.skew

-- of each source
abbrev pub AreOfSources : Ring → (ℕ → Bool) → List (List ℕ) → List CaughtFields → List Counts → Type 0
AreOfSources ring is_by_lane macs past counts = (k : ℕ) (mac : List ℕ) (own : Counts) → slice_get macs k ≡ Some mac → slice_get counts k ≡ Some own → OfSource ring is_by_lane mac past own

-- ---- a direction

-- group frames that were judged, and that a way of a point had
abbrev pub is_judged_at : Ring → ℕ → ℕ → Sighting → Bool
is_judged_at ring point way s = (s.point == point) && is_to_group s && not (is_open ring s.copies) && came_by ring way s.copies

abbrev pub other_way : ℕ → ℕ
other_way way = if way == 0 then 1 else 0

pub record OfDirection (ring : Ring) (direction point way : ℕ) (copies : List CaughtFields) (numbers : DirectionNumbers) : Type 0 where
  pub again : numbers.again ≡ count_copies (λ past c. is_in direction c && is_again past c) copies
  pub most : numbers.most ≡ most_carried direction copies
  pub overtaken : numbers.overtaken ≡ count_copies (λ past c. is_in direction c && is_overtaken past c) copies
  pub late : numbers.late ≡ count_copies (λ past c. is_in direction c && is_late ring past c) copies
  pub others : numbers.others ≡ count_by (is_judged_at ring point (other_way way)) (sightings ring copies)
  pub alone : numbers.alone ≡ count_by (λ s. is_judged_at ring point (other_way way) s && not (came_by ring way s.copies)) (sightings ring copies)

-- of each direction, whose way is that of a lane, at one of the points
abbrev pub AreDirections : Ring → ℕ → List CaughtFields → List DirectionNumbers → Type 0
AreDirections ring points copies all = (direction : ℕ) (own : DirectionNumbers) → slice_get all direction ≡ Some own → slice_index ring.points direction < points → slice_index ring.ways direction < 2
    → OfDirection ring direction (slice_index ring.points direction) (slice_index ring.ways direction) copies own

-- ---- directions, one copy after the other

-- with one more copy, by how often its direction carried its frame before
abbrev pub direction_with : ℕ → Bool → DirectionNumbers → DirectionNumbers
direction_with carried late numbers = record numbers {
  again = more_if numbers.again (nat_le 1 carried);
  late = more_if numbers.late late;
}

abbrev pub no_direction : DirectionNumbers
no_direction = record { again = 0; most = 0; overtaken = 0; late = 0; others = 0; alone = 0 }

-- what is told of a direction by the copies so far
abbrev pub directed : Ring → ℕ → List CaughtFields → DirectionNumbers
directed ring direction [] = no_direction
directed ring direction (c ∷ past) = let before = directed ring direction past in
    if is_in direction c then direction_with (times_before past c) (is_late ring past c) before else before

abbrev pub AreDirected : Ring → List CaughtFields → ℕ → List DirectionNumbers → Type 0
AreDirected ring copies i all = (direction : ℕ) (own : DirectionNumbers) → slice_get all direction ≡ Some own → own ≡ directed ring direction (past_of copies i)

-- copies that were overtaken, by their indexes
abbrev pub overtaken_more : DirectionNumbers → DirectionNumbers
overtaken_more numbers = record numbers { overtaken = one_more numbers.overtaken }

abbrev pub overtaken_put : Option CaughtFields → List DirectionNumbers → List DirectionNumbers
overtaken_put None all = all
overtaken_put (Some c) all = changed overtaken_more c.direction all

abbrev pub is_there_in : ℕ → Option CaughtFields → Bool
is_there_in direction None = false
is_there_in direction (Some c) = is_in direction c

abbrev pub overtaken_in : List CaughtFields → ℕ → List Overtaken → ℕ
overtaken_in copies direction overtaken = count_by (λ (o : Overtaken). is_there_in direction (slice_get copies o.copy)) overtaken

abbrev pub HaveNoOvertaken : List DirectionNumbers → Type 0
HaveNoOvertaken all = (direction : ℕ) (own : DirectionNumbers) → slice_get all direction ≡ Some own → own.overtaken ≡ 0

abbrev pub ArePassed : List CaughtFields → List Overtaken → List DirectionNumbers → List DirectionNumbers → Type 0
ArePassed copies overtaken old new = (direction : ℕ) (before own : DirectionNumbers) → slice_get old direction ≡ Some before → slice_get new direction ≡ Some own
    → own ≡ record before { overtaken = overtaken_in copies direction overtaken }

-- ---- what the other way had, one sighting after the other

-- what is kept of a frame came one way
abbrev pub kept_by : ℕ → the_sighting.Sighting → Bool
kept_by way s = if way == 0 then is_some s.by_0 else is_some s.by_1

-- a copy goes to a group
abbrev pub goes_to_group : Option CaughtFields → Bool
goes_to_group None = false
goes_to_group (Some c) = is_group c.copy.dst

-- a group frame that was judged, and that a way had
abbrev pub is_judged : Ring → List CaughtFields → ℕ → the_sighting.Sighting → Bool
is_judged ring copies way s = goes_to_group (slice_get copies s.first) && not (is_fate 3 (fate_of ring s)) && kept_by way s

abbrev pub is_kept_at : Ring → List CaughtFields → ℕ → ℕ → the_sighting.Sighting → Bool
is_kept_at ring copies point way s = (s.point == point) && is_judged ring copies way s

-- with a frame that the other way had
abbrev pub beside_with : Bool → Bool → Beside → Beside
beside_with had came_too before = record { others = more_if before.others had; alone = more_if before.alone (had && not came_too) }

abbrev pub no_beside : Beside
no_beside = record { others = 0; alone = 0 }

-- of one way of a point, what the other way had, and this one hadn't
pub record IsBeside (ring : Ring) (copies : List CaughtFields) (way : ℕ) (seen : List the_sighting.Sighting) (point : ℕ) (own : Beside) : Type 0 where
  pub others : own.others ≡ count_by (is_kept_at ring copies point (other_way way)) seen
  pub alone : own.alone ≡ count_by (λ s. is_kept_at ring copies point (other_way way) s && not (kept_by way s)) seen

abbrev pub AreBesides : Ring → List CaughtFields → ℕ → List the_sighting.Sighting → List Beside → Type 0
AreBesides ring copies way seen all = (point : ℕ) (own : Beside) → slice_get all point ≡ Some own → IsBeside ring copies way seen point own

-- of a direction, by what is told of the ways 0 and 1 of each point
abbrev pub beside_at : Ring → List Beside → List Beside → ℕ → Beside
beside_at ring way_0 way_1 direction =
    if slice_index ring.ways direction == 0 then unwrap_or (slice_get way_0 (slice_index ring.points direction)) no_beside
    else unwrap_or (slice_get way_1 (slice_index ring.points direction)) no_beside

abbrev pub with_beside : Beside → ℕ → DirectionNumbers → DirectionNumbers
with_beside beside most numbers = record numbers { most = most; others = beside.others; alone = beside.alone }

pub record IsJoined (ring : Ring) (way_0 way_1 : List Beside) (most : List ℕ) (old : List DirectionNumbers) (direction : ℕ) (own : DirectionNumbers) : Type 0 where
  pub before : DirectionNumbers
  pub there : slice_get old direction ≡ Some before
  pub is : own ≡ with_beside (beside_at ring way_0 way_1 direction) (slice_index most direction) before

abbrev pub AreJoined : Ring → List Beside → List Beside → List ℕ → List DirectionNumbers → List DirectionNumbers → Type 0
AreJoined ring way_0 way_1 most old new = (direction : ℕ) (own : DirectionNumbers) → slice_get new direction ≡ Some own → IsJoined ring way_0 way_1 most old direction own

-- ---- a point

-- how many frames it saw
abbrev pub frames_at : Ring → ℕ → List CaughtFields → ℕ
frames_at ring point copies = count_by (λ s. s.point == point) (sightings ring copies)

-- how many frames it saw, whether its directions carried group frames by both ways, and how many frames a table has to hold
pub record OfPoint (ring : Ring) (copies : List CaughtFields) (point : ℕ) (own : PointNumbers) : Type 0 where
  pub frames : own.frames ≡ frames_at ring point (reverse copies)
  pub both_ways : own.both_ways ≡ sees_both_ways ring copies point
  pub needed : own.needed ≡ most_at ring point (needed_by ring) copies

abbrev pub AreOfPoints : Ring → List CaughtFields → List PointNumbers → Type 0
AreOfPoints ring copies points = (point : ℕ) (own : PointNumbers) → slice_get points point ≡ Some own → OfPoint ring copies point own

-- how many sightings began at each
abbrev pub AreBegun : List the_sighting.Sighting → List ℕ → Type 0
AreBegun seen begun = (point n : ℕ) → slice_get begun point ≡ Some n → n ≡ count_by (λ s. s.point == point) seen
