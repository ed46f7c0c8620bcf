-- Reasons for doubt: how many each counts, where first, and what is told of that.
--     IsOfCopies      a reason that counts copies which are such, told at the first of them
--     IsOfFrames      the same of frames at points
--     IsOfStrays      the same of packets that are no copies
--     IsOfPoints      points that saw group frames on one way alone, told at the first of these
--     IsOfGaps        numbers that are missing, told at the first gap in time
--     IsOfSilences    silences, and sources that no supervision tells of
use Rattle.std.specs.Prelude.{ℕ, ◌≡◌, ◌+◌, ◌-◌, ◌<◌, ◌^◌, ◌==◌, ◌&&◌, ◌||◌, min, nat_le, nat_lt, not, Bool, true, false, if◌then◌else◌, List, [], ◌∷◌, count_by, filter, find, length, option_map, reverse, slice_get, unwrap_or, Option, Some, None}
use Rattle.std.specs.List.{list_any, range_with_len, sum_by}
use Rattle.hsr_capture_reader.specs.Fields.{dropped}
use Rattle.hsr_capture_reader.specs.declared.fields.Losses.{Losses}
use Rattle.hsr_frame.specs.Address.{is_among, is_group, is_same_address}
use Rattle.hsr_frame_copies.specs.declared.contents.NoCopy.{NoCopy}
use Rattle.hsr_frame_copies.specs.declared.contents.NoCopy.TheVariants.{Unread, Malformed, Untagged}
use Rattle.hsr_frame_groups.specs.Frames.{CaughtFields}
use Rattle.hsr_health.specs.Counted.{has_wrong_lane, has_wrong_size, is_fate}
use Rattle.hsr_heard.specs.Subjects.{silent_time}
use Rattle.hsr_health.specs.Kinds.{is_link_local}
use Rattle.hsr_health.specs.What.{restart_what, silent_what, stray_what, way_what}
use Rattle.hsr_heard.specs.declared.abouts.About.{About}
use Rattle.hsr_heard.specs.declared.abouts.Silence.{Silence}
use Rattle.hsr_health.specs.declared.copy_reasons.Mark.{Mark}
use Rattle.hsr_health.specs.declared.copy_reasons.Mark.TheVariants as the_mark
use Rattle.hsr_health.specs.declared.counts.Counts.{Counts}
use Rattle.hsr_health.specs.Marks.{Marked}
use Rattle.hsr_health.specs.declared.reason.Reason.{Reason}
use Rattle.hsr_health.specs.declared.reason.Spot.{Spot}
use Rattle.hsr_health.specs.declared.reason.What.{What}
use Rattle.hsr_health.specs.declared.reason.What.TheVariants as the_what
use Rattle.hsr_health.specs.declared.reason.Word.{Word}
use Rattle.hsr_health.specs.declared.reason.Word.TheVariants as the_word
use Rattle.hsr_number_runs.specs.declared.gaps.Gap.{Gap}
use Rattle.hsr_number_runs.specs.declared.run.Restart.{Restart}
use Rattle.hsr_sightings.specs.Copies.{count_copies, first_such, is_again, is_clash, is_late, is_storm}
use Rattle.hsr_sightings.specs.Read.{AreCrowds}
use Rattle.hsr_sightings.specs.Ring.{Ring, is_at, point_of}
use Rattle.hsr_sightings.specs.Seen.{fate_of}
use Rattle.hsr_sightings.specs.Sightings.{Sighting, is_once, is_to_group, sees_both_ways}
use Rattle.hsr_sightings.specs.declared.late.Crowd.{Crowd}
use Rattle.hsr_sightings.specs.Fields as the_sighting
use Rattle.hsr_taps.specs.Tallies.{is_at as is_in}
use Rattle.hsr_taps.specs.declared.tapping.Stray.{Stray}

abbrev pub spot_of : CaughtFields → Spot
spot_of c = record { packet = c.packet; at = c.at }

-- ---- copies; a past has the latest first

-- a reason of a word counts so many, is told at a place, and tells this of the first; there is none where it counts none
abbrev pub IsToldAt : Word → ℕ → Option Spot → Option What → Option Reason → Type 0
IsToldAt word count spot what None = count ≡ 0
IsToldAt word count spot what (Some reason) = (reason.word ≡ word) × (reason.count ≡ count) × (0 < count) × (reason.spot ≡ spot) × (Some reason.what ≡ what)

-- the same of a reason that there is
abbrev pub IsToldWith : Word → ℕ → Option Spot → What → Option Reason → Type 0
IsToldWith word count spot what None = ⊥
IsToldWith word count spot what (Some reason) = (reason.word ≡ word) × (reason.count ≡ count) × (reason.spot ≡ spot) × (reason.what ≡ what)

-- one, if it is so
abbrev pub one_if : Bool → ℕ
one_if true = 1
one_if false = 0

-- a reason that counts one, and is told at no packet
abbrev pub IsAlone : Word → What → Bool → Option Reason → Type 0
IsAlone word what holds reason = IsToldAt word (one_if holds) None (Some what) reason

abbrev pub spot_if : Option CaughtFields → Option Spot
spot_if None = None
spot_if (Some c) = Some (spot_of c)

-- what is told of the first copy in time that is such, by its past
abbrev pub first_told : (List CaughtFields → CaughtFields → Bool) → (List CaughtFields → CaughtFields → What) → List CaughtFields → Option What
first_told is_such tell [] = None
first_told is_such tell (c ∷ past) = first_or (first_told is_such tell past) (if is_such past c then Some (tell past c) else None)
  where
    first_or : Option What → Option What → Option What
    first_or None other = other
    first_or (Some found) other = Some found

abbrev pub IsOfCopies : Word → (List CaughtFields → CaughtFields → Bool) → (List CaughtFields → CaughtFields → What) → List CaughtFields → Option Reason → Type 0
IsOfCopies word is_such tell past reason = IsToldAt word (count_copies is_such past) (spot_if (first_such is_such past)) (first_told is_such tell past) reason

-- the second and the third copy of a frame on a direction
abbrev pub is_again_alone : List CaughtFields → CaughtFields → Bool
is_again_alone past c = is_again past c && not (is_storm past c)

-- the copies that a reason counts, by their pasts
abbrev pub such_of : Mark → Ring → (ℕ → Bool) → List CaughtFields → CaughtFields → Bool
such_of the_mark.Storm ring is_by_lane past c = is_storm past c
such_of the_mark.Again ring is_by_lane past c = is_again_alone past c
such_of the_mark.Clash ring is_by_lane past c = is_clash past c
such_of the_mark.Late ring is_by_lane past c = is_late ring past c
such_of the_mark.Size ring is_by_lane past c = has_wrong_size past c
such_of the_mark.Lane ring is_by_lane past c = has_wrong_lane is_by_lane ring past c

abbrev pub word_of : Mark → Word
word_of the_mark.Storm = the_word.Storm
word_of the_mark.Again = the_word.Again
word_of the_mark.Clash = the_word.Clash
word_of the_mark.Late = the_word.Late
word_of the_mark.Size = the_word.Size
word_of the_mark.Lane = the_word.Lane

-- the same by what is known of a copy
abbrev pub is_marked : Mark → ℕ → Marked → Bool
is_marked the_mark.Storm carried marks = nat_le 3 carried
is_marked the_mark.Again carried marks = nat_le 1 carried && not (nat_le 3 carried)
is_marked the_mark.Clash carried marks = marks.is_clash
is_marked the_mark.Late carried marks = marks.is_late
is_marked the_mark.Size carried marks = marks.is_wrong_size
is_marked the_mark.Lane carried marks = marks.is_wrong_lane

-- the first of flags
abbrev pub IsFirstFlag : List Bool → Option ℕ → Type 0
IsFirstFlag flags None = (k : ℕ) (b : Bool) → slice_get flags k ≡ Some b → b ≡ false
IsFirstFlag flags (Some i) = (slice_get flags i ≡ Some true) × ((k : ℕ) (b : Bool) → k < i → slice_get flags k ≡ Some b → b ≡ false)

-- the first of a list that is such, by its index
abbrev pub IsFirstAt : {X : Type 0} → (X → Bool) → List X → Option ℕ → Type 0
IsFirstAt {X} is_such xs None = (k : ℕ) (x : X) → slice_get xs k ≡ Some x → is_such x ≡ false
IsFirstAt {X} is_such xs (Some i) = (i < length xs) × ((x : X) → slice_get xs i ≡ Some x → is_such x ≡ true) × ((k : ℕ) (x : X) → k < i → slice_get xs k ≡ Some x → is_such x ≡ false)

-- ---- frames at points

abbrev pub first_frame : (Sighting → Bool) → List Sighting → Option CaughtFields
first_frame is_such seen = option_map (λ s. s.first) (find is_such (reverse seen))

abbrev pub IsOfFrames : Word → (Sighting → Bool) → (Sighting → What) → List Sighting → Option Reason → Type 0
IsOfFrames word is_such tell seen reason = IsToldAt word (count_by is_such seen) (spot_if (first_frame is_such seen)) (option_map tell (find is_such (reverse seen))) reason

-- a group frame that came one way alone, at one of so many points that sees both
abbrev pub is_one_way_among : Ring → List CaughtFields → ℕ → Sighting → Bool
is_one_way_among ring copies many s = (is_to_group s && is_once ring s.copies) && (nat_lt s.point many && sees_both_ways ring copies s.point)

-- of a sighting that is kept: a group frame that came one way alone, at a point that sees both
abbrev pub kept_one_way_by : Ring → List Bool → the_sighting.Sighting → Option CaughtFields → Bool
kept_one_way_by ring both s None = false
kept_one_way_by ring both s (Some c) = is_group c.copy.dst && is_fate 1 (fate_of ring s) && is_in both s.point

abbrev pub is_kept_one_way : Ring → List CaughtFields → List Bool → the_sighting.Sighting → Bool
is_kept_one_way ring copies both s = kept_one_way_by ring both s (slice_get copies s.first)

-- ---- points

-- a point saw a group frame
abbrev pub saw_group : Ring → List CaughtFields → ℕ → Bool
saw_group ring copies point = list_any (λ c. is_at ring point c && is_group c.copy.dst) copies

-- it saw group frames on one way alone
abbrev pub is_one_sided : Ring → List CaughtFields → ℕ → Bool
is_one_sided ring copies point = saw_group ring copies point && not (sees_both_ways ring copies point)

-- of so many points, those that did
abbrev pub one_sided_among : Ring → List CaughtFields → ℕ → ℕ
one_sided_among ring copies many = count_by (is_one_sided ring copies) (range_with_len 0 many)

-- a group frame at such a point, of so many
abbrev pub is_at_one_sided : Ring → List CaughtFields → ℕ → CaughtFields → Bool
is_at_one_sided ring copies many c = (nat_lt (point_of ring c) many && is_one_sided ring copies (point_of ring c)) && is_group c.copy.dst

abbrev pub IsOfPoints : Ring → List CaughtFields → ℕ → Option Reason → Type 0
IsOfPoints ring copies many reason =
    IsToldAt the_word.OneSided (one_sided_among ring copies many) (spot_if (find (is_at_one_sided ring copies many) copies)) (option_map (way_what ring) (find (is_at_one_sided ring copies many) copies)) reason

-- ---- packets that are no copies

abbrev pub is_malformed : Stray → Bool
is_malformed stray = by_what stray.what
  where
    by_what : NoCopy → Bool
    by_what (Malformed fault) = true
    by_what (Untagged frame) = false
    by_what Unread = false

-- it has no tag, and may leave its link
abbrev pub is_foreign : Stray → Bool
is_foreign stray = by_what stray.what
  where
    by_what : NoCopy → Bool
    by_what (Untagged frame) = not (is_link_local frame.dst)
    by_what (Malformed fault) = false
    by_what Unread = false

abbrev pub stray_spot : Option Stray → Option Spot
stray_spot None = None
stray_spot (Some stray) = Some (record { packet = stray.packet; at = stray.at })

abbrev pub IsOfStrays : Word → (Stray → Bool) → List Stray → Option Reason → Type 0
IsOfStrays word is_such strays reason = IsToldAt word (count_by is_such strays) (stray_spot (find is_such strays)) (option_map stray_what (find is_such strays)) reason

-- ---- the whole

-- a source has a group frame that came twice, once or more
abbrev pub is_judged : Counts → Bool
is_judged own = nat_lt 0 own.group.twice || nat_lt 0 own.group.once || nat_lt 0 own.group.more

-- there are copies, and all their group frames are open
abbrev pub is_unjudged : List CaughtFields → List Counts → Bool
is_unjudged copies counts = not (list_any is_judged counts) && not (length copies == 0)

-- packets that the capture itself lost at an interface, if that is asked for
abbrev pub lost_or : Option Losses → ℕ
lost_or None = 0
lost_or (Some losses) = unwrap_or (dropped losses) 0

abbrev pub lost_at : List Losses → List Bool → ℕ → ℕ
lost_at losses asked i = if is_in asked i then lost_or (slice_get losses i) else 0

-- at all interfaces; a number of 64 bits at most
abbrev pub lost_among : List Losses → List Bool → ℕ
lost_among losses asked = min (sum_by (lost_at losses asked) (range_with_len 0 (length losses))) (2 ^ 64 - 1)

-- the first interface that lost some
abbrev pub first_lost : List Losses → List Bool → Option ℕ
first_lost losses asked = find (λ i. nat_lt 0 (lost_at losses asked i)) (range_with_len 0 (length losses))

abbrev pub IsOfLosses : List Losses → List Bool → Option Reason → Type 0
IsOfLosses losses asked reason = IsToldAt the_word.Dropped (lost_among losses asked) None (option_map (λ i. the_what.Packets i (lost_at losses asked i)) (first_lost losses asked)) reason

-- ---- sources

-- supervision tells of an address
abbrev pub is_told : List About → List ℕ → Bool
is_told abouts mac = list_any (λ about. is_same_address about.mac mac) abouts

-- no frame of a source came, and supervision told nothing of it
abbrev pub is_absent : List (List ℕ) → List About → List ℕ → Bool
is_absent macs abouts mac = not (is_among macs mac) && not (is_told abouts mac)

abbrev pub IsOfAbsent : List (List ℕ) → Option Reason → Type 0
IsOfAbsent absent reason = IsToldAt the_word.Absent (length absent) None (option_map (λ mac. the_what.Source mac) (slice_get absent 0)) reason

-- the copy at an index
abbrev pub spot_at : List CaughtFields → ℕ → Option Spot
spot_at copies i = spot_if (slice_get copies i)

-- ---- numbers

abbrev pub missing_in : List Gap → ℕ
missing_in gaps = sum_by (λ g. g.missing) gaps

-- single frames of a source were seen at all
abbrev pub has_single : Counts → Bool
has_single own = nat_lt 0 own.single.twice || nat_lt 0 own.single.once || nat_lt 0 own.single.more || nat_lt 0 own.single.«open»

-- of a group: one of its sources has such
abbrev pub saw_single : List ℕ → List Counts → ℕ → Bool
saw_single [] counts group = false
saw_single (own ∷ groups) [] group = false
saw_single (own ∷ groups) (counts ∷ rest) group = ((own == group) && has_single counts) || saw_single groups rest group

-- the groups whose gaps count
abbrev pub those_single : List ℕ → List Counts → ℕ → Bool
those_single groups counts group = nat_lt group (length groups) && saw_single groups counts group

-- a gap was told before another one: by its moment, and then by its copy
abbrev pub is_before : Gap → Gap → Bool
is_before a b = nat_lt a.at b.at || ((a.at == b.at) && nat_lt a.copy b.copy)

-- the first gap in time
pub record IsFirstGap (gaps : List Gap) (first : Gap) : Type 0 where
  pub there : (k : ℕ) × (slice_get gaps k ≡ Some first)
  pub least : (k : ℕ) (gap : Gap) → slice_get gaps k ≡ Some gap → is_before gap first ≡ false

-- Gaps of some groups: how many numbers are missing (a number of 64 bits at most), the first gap in time, and what is told of it.
pub record IsReasonOfGaps (word : Word) (tell : Gap → What) (copies : List CaughtFields) (gaps : List Gap) (reason : Reason) : Type 0 where
  pub word_is : reason.word ≡ word
  pub count : reason.count ≡ min (missing_in gaps) (2 ^ 64 - 1)
  pub first : Gap
  pub is_first : IsFirstGap gaps first
  pub spot : reason.spot ≡ spot_at copies first.copy
  pub what : reason.what ≡ tell first

abbrev pub IsOfSome : Word → (Gap → What) → List CaughtFields → List Gap → Option Reason → Type 0
IsOfSome word tell copies gaps None = length gaps ≡ 0
IsOfSome word tell copies gaps (Some reason) = IsReasonOfGaps word tell copies gaps reason

abbrev pub IsOfGaps : Word → (Gap → What) → List CaughtFields → (ℕ → Bool) → List Gap → Option Reason → Type 0
IsOfGaps word tell copies counts gaps reason = IsOfSome word tell copies (filter (λ g. counts g.group) gaps) reason

-- the first restart's copy
abbrev pub restart_spot : List CaughtFields → List Restart → Option Spot
restart_spot copies [] = None
restart_spot copies (restart ∷ restarts) = spot_at copies restart.copy

abbrev pub IsOfRestarts : List CaughtFields → List (List ℕ) → List Restart → Option Reason → Type 0
IsOfRestarts copies macs restarts reason =
    IsToldAt the_word.Restart (length restarts) (restart_spot copies restarts) (option_map (restart_what macs) (slice_get restarts 0)) reason

-- a crowd is greater than another one, or as great and earlier
abbrev pub is_greater : Crowd → Crowd → Bool
is_greater crowd most = nat_lt most.frames crowd.frames || ((most.frames == crowd.frames) && nat_lt crowd.first most.first)

-- one of the crowds, than which none is greater
pub record IsGreatest (crowds : List Crowd) (found : Crowd) : Type 0 where
  pub there : 0 < found.frames → (k : ℕ) × (slice_get crowds k ≡ Some found)
  pub most : (k : ℕ) (crowd : Crowd) → slice_get crowds k ≡ Some crowd → is_greater crowd found ≡ false

-- the greatest crowd of so many points, of several as great the first in time
pub record IsGreatestCrowd (ring : Ring) (copies : List CaughtFields) (many : ℕ) (found : Crowd) : Type 0 where
  pub crowds : List Crowd
  pub long : length crowds ≡ many
  pub are : AreCrowds ring copies crowds
  pub greatest : IsGreatest crowds found

-- more frames in 400 ms than a table has
abbrev pub IsOfCrowd : List CaughtFields → Crowd → ℕ → Option Reason → Type 0
IsOfCrowd copies crowd table reason = IsToldAt the_word.Crowded (one_if (nat_lt table crowd.frames)) (spot_at copies crowd.first) (Some (the_what.Frames crowd.frames table)) reason

-- ---- silences

-- the first in time, and of those of one moment the first in the list
abbrev pub earlier_of : Option Silence → Silence → Silence
earlier_of None silence = silence
earlier_of (Some first) silence = if nat_le first.from silence.from then first else silence

abbrev pub first_from : Option Silence → List Silence → Option Silence
first_from found [] = found
first_from found (silence ∷ silences) = first_from (Some (earlier_of found silence)) silences

-- the copy before it; none where the capture begins with it
abbrev pub copy_spot : List CaughtFields → Option ℕ → Option Spot
copy_spot copies None = None
copy_spot copies (Some copy) = spot_at copies copy

abbrev pub silence_spot : List CaughtFields → Option Silence → Option Spot
silence_spot copies None = None
silence_spot copies (Some silence) = copy_spot copies silence.copy

-- the sources of which no supervision tells, in a capture of 5 s or more
abbrev pub untold_in : Ring → List (List ℕ) → List About → List (List ℕ)
untold_in ring macs abouts = if nat_le silent_time (ring.end - ring.start) then filter (λ mac. not (is_told abouts mac)) macs else []

-- silences and such sources; a number of 64 bits at most
abbrev pub silent_count : List Silence → List (List ℕ) → ℕ
silent_count silences untold = min (length silences + length untold) (2 ^ 64 - 1)

abbrev pub IsOfSilences : Ring → List CaughtFields → List (List ℕ) → List About → List Silence → Option Reason → Type 0
IsOfSilences ring copies macs abouts silences reason =
    IsToldAt the_word.Silent (silent_count silences (untold_in ring macs abouts)) (silence_spot copies (first_from None silences)) (silent_what (first_from None silences) (untold_in ring macs abouts)) reason
