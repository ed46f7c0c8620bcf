-- The whole: what is told of a capture.
use Rattle.std.specs.Prelude.{ℕ, ◌≡◌, ◌+◌, ◌-◌, ◌<◌, ◌≤◌, ◌*◌, ◌^◌, ◌==◌, ◌&&◌, ◌||◌, max, nat_eq, nat_le, nat_lt, Bool, true, false, List, [], ◌∷◌, ◌++◌, count_by, filter, filter_map, is_some, length, map, option_to_list, reverse, slice_get, slice_index, if◌then◌else◌, IsPermutation, Option, Some, None}
use Rattle.std.specs.List.{list_any, range_with_len, sum_by}
use Rattle.std.specs.List.Sorted.{IsSortedByKey, IsStableByKey}
use Rattle.std.specs.Ordering.{nat_cmp}
use Rattle.hsr_capture_reader.specs.Capture.{CaptureFields}
use Rattle.hsr_capture_reader.specs.Fields.{PacketFields}
use Rattle.hsr_capture_reader.specs.declared.fields.Losses.{Losses}
use Rattle.hsr_frame_groups.specs.Frames.{AreInTime, CaughtFields}
use Rattle.hsr_health.specs.Broken.{AreRuns, runs_of}
use Rattle.hsr_health.specs.Counted.{AreDirections, AreOfPoints as ArePoints, AreOfSources, AreSources, changed, mark_but_late, mark_of, one_more}
use Rattle.hsr_heard.specs.Hearing.{AreHeard, those_of}
use Rattle.hsr_heard.specs.Subjects.{AreAbouts}
use Rattle.hsr_health.specs.Loads.{AreLoads, capped}
use Rattle.hsr_health.specs.Numbering.{AreGroups, IsLedger, group_name, life_number, numbered_at}
use Rattle.hsr_health.specs.Order.{in_order, restart_covers, silence_covers, wrong_lanes}
use Rattle.hsr_health.specs.Kinds.{AreMalformed, AreUntagged, AreVlans}
use Rattle.hsr_health.specs.Reasons.{AreOfCopies, AreOfPoints, AreOfSources as AreOfKnown, AreOfStrays, AreOfWhole}
use Rattle.hsr_health.specs.Sources.{HasManySources}
use Rattle.hsr_health.specs.Told.{IsGreatestCrowd, IsOfCrowd, is_absent}
use Rattle.hsr_health.specs.declared.contents.Contents.{Contents}
use Rattle.hsr_health.specs.declared.counts.Counts.{Counts}
use Rattle.hsr_health.specs.declared.asked.Asked.{Asked}
use Rattle.hsr_heard.specs.declared.heard.Heard.{Heard}
use Rattle.hsr_health.specs.declared.devices.Devices.{Devices}
use Rattle.hsr_health.specs.declared.findings.Findings.{Findings}
use Rattle.hsr_health.specs.declared.framed.Framed.{Framed}
use Rattle.hsr_health.specs.declared.gathered.Gathered.{Gathered}
use Rattle.hsr_health.specs.declared.health.Health.{Health}
use Rattle.hsr_health.specs.declared.health.HealthFault.{HealthFault}
use Rattle.hsr_health.specs.declared.health.HealthFault.TheVariants as fault
use Rattle.hsr_health.specs.declared.known.Known.{Known}
use Rattle.hsr_health.specs.declared.measured.Measured.{Measured}
use Rattle.hsr_health.specs.declared.seen.Seen.{Seen}
use Rattle.hsr_health.specs.declared.settled.Settled.{Settled}
use Rattle.hsr_health.specs.declared.health.Told.{Told}
use Rattle.hsr_health.specs.declared.traffic.Outline.{Outline}
use Rattle.hsr_health.specs.declared.traffic.Traffic.{Traffic}
use Rattle.hsr_health.specs.declared.order.Facts.{Facts}
use Rattle.hsr_health.specs.declared.reason.Reason.{Reason}
use Rattle.hsr_health.specs.declared.sources.Sources.{Sources}
use Rattle.hsr_packet_order.specs.Disorder.{disorder_of, moment_of}
use Rattle.hsr_sightings.specs.Again.{IsCarried}
use Rattle.hsr_sightings.specs.Copies.{count_copies, crowd}
use Rattle.hsr_sightings.specs.Frames.{begins}
use Rattle.hsr_sightings.specs.Read.{AreNeeded, AreOvertaken, AreRead, AreSightings, HasPlaces, HasWays, HaveOwnNumbers, TellsEach, most_at}
use Rattle.hsr_sightings.specs.Ring.{Ring}
use Rattle.hsr_sightings.specs.Sightings.{sees_both_ways}
use Rattle.hsr_taps.specs.Asked.{ChoiceFields}
use Rattle.hsr_taps.specs.Came.{ArePackets, IsTapped}
use Rattle.hsr_taps.specs.Directions.{interface_of}
use Rattle.hsr_taps.specs.Tallies.{is_at}
use Rattle.hsr_taps.specs.declared.direction.Taps.{Taps}
use Rattle.hsr_taps.specs.declared.direction.Taps.TheVariants as the_taps
use Rattle.hsr_taps.specs.declared.tapping.Stray.{Stray}

-- ---- times

abbrev pub moment_or : Option PacketFields → ℕ
moment_or None = 0
moment_or (Some p) = p.moment

-- the moment of the last packet, or a later one that the file says
abbrev pub end_by : ℕ → Option PacketFields → ℕ
end_by end None = 0
end_by end (Some p) = max p.moment end

-- ---- what is asked for

abbrev pub is_asked : ChoiceFields → ℕ → Bool
is_asked choice i = (length choice.interfaces == 0) || list_any (λ j. j == i) choice.interfaces

-- ---- the capture

-- the bounds of a capture that was read: its packets are numbered as the file has them
pub record IsBounded (capture : CaptureFields) : Type 0 where
  pub interfaces : length capture.interfaces ≤ 64
  pub packets : length capture.packets ≤ 1048576
  pub numbers : ArePackets capture.packets

-- packets in the order of time; those of one moment as the file has them
pub record IsInTime (before after : List PacketFields) : Type 0 where
  pub same : IsPermutation before after
  pub sorted : IsSortedByKey moment_of nat_cmp after
  pub stable : IsStableByKey moment_of nat_cmp before after

-- what stays of a capture, by its packets in the order of time
pub record IsOutline (capture : CaptureFields) (packets : List PacketFields) (outline : Outline) : Type 0 where
  pub interfaces : outline.interfaces.items ≡ capture.interfaces
  pub losses : outline.losses.items ≡ capture.losses
  pub many : outline.packets ≡ length capture.packets
  pub disorder : outline.disorder ≡ disorder_of capture.packets
  pub start : outline.start ≡ moment_or (slice_get packets 0)
  pub end : outline.end ≡ end_by capture.end (slice_get packets (length packets - 1))
  pub is_short : outline.is_short ≡ capture.is_short

-- what stays of a capture, and what came by its taps, with the copies among it
pub record IsTraffic (choice : ChoiceFields) (capture : CaptureFields) (traffic : Traffic) (copies : List CaughtFields) : Type 0 where
  pub packets : List PacketFields
  pub in_time : IsInTime capture.packets packets
  pub outline : IsOutline capture packets traffic.outline
  pub looked : List Bool
  pub tapped : IsTapped choice capture.interfaces packets looked traffic.tapped copies
  pub loads : AreLoads (map is_some traffic.tapped.tallies.items) packets traffic.loads.items

-- ---- directions

-- the copies of a direction are told apart by lane
abbrev pub is_lane : Option Taps → Bool
is_lane None = false
is_lane (Some the_taps.One) = false
is_lane (Some the_taps.Both) = true
is_lane (Some the_taps.Flags) = false

abbrev pub lanes_of : List Taps → List Bool
lanes_of taps = map (λ d. is_lane (slice_get taps (interface_of d))) (range_with_len 0 320)

-- ---- numbers

abbrev pub greatest : List ℕ → ℕ
greatest [] = 0
greatest (n ∷ ns) = max n (greatest ns)

abbrev pub judged_by : Counts → ℕ
judged_by own = capped (own.group.twice + own.group.once + own.group.more)

-- group frames that came twice, and those that were judged
abbrev pub twice_among : List Counts → ℕ
twice_among counts = capped (sum_by (λ own. own.group.twice) counts)

abbrev pub judged_among : List Counts → ℕ
judged_among counts = capped (sum_by judged_by counts)

-- one supervision frame more
abbrev pub one_life : Counts → Counts
one_life own = record own { lives = one_more own.lives }

abbrev pub one_unreadable : Counts → Counts
one_unreadable own = record own { unreadable = one_more own.unreadable }

-- counts that differ from others by supervision frames alone
abbrev pub is_alike : Counts → Counts → Type 0
is_alike before own = own ≡ record before { lives = own.lives; unreadable = own.unreadable }

abbrev pub AreAlike : List Counts → List Counts → Type 0
AreAlike old new = (k : ℕ) (own : Counts) → slice_get new k ≡ Some own → (before : Counts) × (slice_get old k ≡ Some before) × is_alike before own

-- one more supervision frame, if the copy began it, of the source of that copy
abbrev pub life_put : List ℕ → Heard → List Counts → List Counts
life_put of_copy one counts = if one.begins then changed one_life (slice_index of_copy one.copy) counts else counts

-- supervision frames of the source at an index: those that can be read, and those that can't
abbrev pub is_life_of : List ℕ → ℕ → Heard → Bool
is_life_of of_copy k one = one.begins && (slice_index of_copy one.copy == k)

abbrev pub lives_of : List ℕ → List Heard → ℕ → ℕ
lives_of of_copy heard k = count_by (is_life_of of_copy k) heard

abbrev pub unreadable_of : List ℕ → List ℕ → ℕ → ℕ
unreadable_of of_copy unread k = count_by (λ i. slice_index of_copy i == k) unread

-- each of several that had none has so many, and each has as many as before; a number of 64 bits at most
abbrev pub AreMore : (Counts → ℕ) → (ℕ → ℕ) → List Counts → List Counts → Type 0
AreMore field many old new = (k : ℕ) (own : Counts) → slice_get new k ≡ Some own → (before : Counts) × (slice_get old k ≡ Some before) × (field before ≡ 0 → field own ≡ capped (many k))

abbrev pub AreAsMany : (Counts → ℕ) → List Counts → List Counts → Type 0
AreAsMany field old new = (k : ℕ) (own : Counts) → slice_get new k ≡ Some own → (before : Counts) × (slice_get old k ≡ Some before) × (field own ≡ field before)

-- ---- copies

-- copies in the order of time, each of its own packet, at one of 64 points
pub record AreCaught (ring : Ring) (copies : List CaughtFields) : Type 0 where
  pub time : AreInTime copies
  pub few : length copies < 2 ^ 31
  pub numbers : HaveOwnNumbers copies
  pub directions : (i : ℕ) (c : CaughtFields) → slice_get copies i ≡ Some c → c.direction < 320
  pub places : HasPlaces ring
  pub ways : HasWays ring

-- what copies tell by their payloads: of each the one that began its frame, what is counted of it, but whether it is late, and what supervision says
pub record AreContents (ring : Ring) (copies : List CaughtFields) (taps : List Taps) (contents : Contents) : Type 0 where
  pub read : AreRead copies contents.firsts.items
  pub marks : TellsEach (mark_but_late (is_at (lanes_of taps)) ring) copies contents.marks.items
  pub heard : AreHeard ring copies contents.hearing.heard.items contents.hearing.unread.items

-- what copies tell of one another as copies of frames
pub record AreFramed (ring : Ring) (copies : List CaughtFields) (taps : List Taps) (framed : Framed) : Type 0 where
  pub read : AreRead copies framed.firsts.items
  pub carried : IsCarried copies framed.carried
  pub overtaken : AreOvertaken copies framed.overtaken.items
  pub marks : TellsEach (mark_but_late (is_at (lanes_of taps)) ring) copies framed.marks.items

-- what copies tell of one another
pub record IsSeen (ring : Ring) (copies : List CaughtFields) (taps : List Taps) (seen : Seen) : Type 0 where
  pub carried : IsCarried copies seen.carried
  pub sightings : AreSightings ring copies seen.sightings.all.items seen.sightings.of_copy.items
  pub overtaken : AreOvertaken copies seen.overtaken.items
  pub marks : TellsEach (mark_of (is_at (lanes_of taps)) ring) copies seen.marks.items

-- what supervision and the numbers of frames tell of sources
pub record IsDevices (ring : Ring) (copies : List CaughtFields) (sources : Sources) (devices : Devices) : Type 0 where
  pub counted : length devices.counted.items ≡ length sources.macs.items
  pub grouped : length devices.groups.items ≡ length sources.macs.items
  pub groups : AreGroups (map (group_name devices.abouts.all.items) sources.macs.items) devices.groups.items
  pub heard : List Heard
  pub unread : List ℕ
  pub are_heard : AreHeard ring copies heard unread
  pub lives_are : (k : ℕ) (own : Counts) → slice_get devices.counted.items k ≡ Some own → own.lives ≡ capped (lives_of sources.of_copy.items heard k)
  pub unreadable_are : (k : ℕ) (own : Counts) → slice_get devices.counted.items k ≡ Some own → own.unreadable ≡ capped (unreadable_of sources.of_copy.items unread k)
  pub abouts : AreAbouts heard ring.start ring.end devices.abouts.all.items devices.abouts.silences.items
  pub ledger : IsLedger (those_of (numbered_at sources.of_copy.items devices.groups.items) copies) (length sources.macs.items) devices.ledger
  pub lives : IsLedger (filter_map (life_number sources.of_copy.items) heard) (length sources.macs.items) devices.lives

-- counts with the supervision frames of others
abbrev pub with_lives : Counts → Counts → Counts
with_lives lives own = record own { lives = lives.lives; unreadable = lives.unreadable }

abbrev pub HaveLives : List Counts → List Counts → Type 0
HaveLives lives all = (k : ℕ) (own : Counts) → slice_get all k ≡ Some own → (its : Counts) × (slice_get lives k ≡ Some its) × ((own.lives ≡ its.lives) × (own.unreadable ≡ its.unreadable))

-- what sources and their supervision tell
pub record IsKnown (ring : Ring) (copies : List CaughtFields) (sources : Sources) (seen : Seen) (known : Known) : Type 0 where
  pub counted : length known.counts.items ≡ length sources.macs.items
  pub counts : (is_by_lane : ℕ → Bool) → TellsEach (mark_of is_by_lane ring) copies seen.marks.items → AreOfSources ring is_by_lane sources.macs.items (reverse copies) known.counts.items
  pub grouped : length known.groups.items ≡ length sources.macs.items
  pub groups : AreGroups (map (group_name known.abouts.all.items) sources.macs.items) known.groups.items
  pub heard : List Heard
  pub unread : List ℕ
  pub are_heard : AreHeard ring copies heard unread
  pub lives_are : (k : ℕ) (own : Counts) → slice_get known.counts.items k ≡ Some own → own.lives ≡ capped (lives_of sources.of_copy.items heard k)
  pub unreadable_are : (k : ℕ) (own : Counts) → slice_get known.counts.items k ≡ Some own → own.unreadable ≡ capped (unreadable_of sources.of_copy.items unread k)
  pub abouts : AreAbouts heard ring.start ring.end known.abouts.all.items known.abouts.silences.items
  pub ledger : IsLedger (those_of (numbered_at sources.of_copy.items known.groups.items) copies) (length sources.macs.items) known.ledger
  pub lives : IsLedger (filter_map (life_number sources.of_copy.items) heard) (length sources.macs.items) known.lives

-- what is told of so many points, and of directions
pub record IsMeasured (ring : Ring) (copies : List CaughtFields) (sources : Sources) (many : ℕ) (measured : Measured) : Type 0 where
  pub both : measured.both.items ≡ map (sees_both_ways ring copies) (range_with_len 0 many)
  pub long : length measured.needed.items ≡ many
  pub needed : AreNeeded ring copies measured.needed.items
  pub crowd : measured.crowd.frames ≡ greatest (map (λ point. most_at ring point (crowd ring) copies) (range_with_len 0 many))
  pub greatest_crowd : IsGreatestCrowd ring copies many measured.crowd
  pub points : ArePoints ring copies measured.points.items
  pub directions : AreDirections ring many (reverse copies) measured.directions.items
  pub spans : AreRuns ring sources.macs.items (runs_of ring copies many) measured.spans.items

pub record AreFindings (ring : Ring) (copies : List CaughtFields) (taps : List Taps) (many : ℕ) (findings : Findings) : Type 0 where
  pub sources : AreSources copies findings.sources.macs.items findings.sources.of_copy.items
  pub few : length findings.sources.macs.items ≤ 1024
  pub seen : IsSeen ring copies taps findings.seen
  pub known : IsKnown ring copies findings.sources findings.seen findings.known
  pub measured : IsMeasured ring copies findings.sources many findings.measured

-- ---- the order of reasons

pub record AreFacts (copies : List CaughtFields) (findings : Findings) (facts : Facts) : Type 0 where
  pub lane : facts.lane_is_common ≡ nat_le (length copies) (wrong_lanes findings.known.counts.items * 10)
  pub silence : facts.silence_covers ≡ silence_covers findings.measured.spans.items findings.known.abouts.silences.items
  pub restart : facts.restart_covers ≡ restart_covers findings.measured.spans.items findings.known.ledger.restarts.items
  pub one_source : facts.one_source ≡ nat_eq (count_by (λ own. nat_lt 0 own.group.once) findings.known.counts.items) 1

-- ---- reasons

-- All reasons that hold: those of copies, those of the whole, those of sources, those of points, a crowd, and those of other packets.
pub record AreReasons (ring : Ring) (taps : List Taps) (copies : List CaughtFields) (many : ℕ) (findings : Findings) (losses : List Losses) (asked : List Bool) (absent : List (List ℕ))
    (strays : List Stray) (table : ℕ) (reasons : List Reason) : Type 0 where
  pub of_copies : List Reason
  pub of_whole : List Reason
  pub of_sources : List Reason
  pub of_points : List Reason
  pub crowded : Option Reason
  pub of_copies_told : AreOfCopies ring (is_at (lanes_of taps)) (reverse copies) of_copies
  pub of_whole_told : AreOfWhole copies findings.known.counts.items losses asked absent of_copies of_whole
  pub of_sources_told : AreOfKnown ring copies findings.sources.macs.items findings.known.groups.items findings.known.counts.items findings.known.ledger.gaps.items findings.known.lives.gaps.items
      findings.known.ledger.restarts.items findings.known.abouts.all.items findings.known.abouts.silences.items of_whole of_sources
  pub of_points_told : AreOfPoints ring copies many of_sources of_points
  pub crowded_told : IsOfCrowd copies findings.measured.crowd table crowded
  pub of_strays_told : AreOfStrays strays (of_points ++ option_to_list crowded) reasons

-- what is told of a capture behind what is told of its copies
pub record IsSettled (ring : Ring) (taps : List Taps) (many : ℕ) (traffic : Traffic) (copies : List CaughtFields) (asked : Asked) (expected : List (List ℕ)) (findings : Findings) (settled : Settled) : Type 0 where
  pub absent : settled.absent.items ≡ filter (is_absent findings.sources.macs.items findings.known.abouts.all.items) expected
  pub told : List Reason
  pub facts : Facts
  pub are_told : AreReasons ring taps copies many findings traffic.outline.losses.items (map (is_asked asked.choice) (range_with_len 0 (length traffic.outline.interfaces.items)))
      settled.absent.items traffic.tapped.strays.items asked.table told
  pub are_facts : AreFacts copies findings facts
  pub reasons : settled.reasons.items ≡ in_order facts told
  pub vlans : AreVlans (reverse copies) settled.vlans.items
  pub untagged : AreUntagged traffic.tapped.strays.items settled.untagged.items
  pub malformed : AreMalformed traffic.tapped.strays.items settled.malformed.items

-- ---- the whole

-- the times of a capture, and the point and the way of each direction
abbrev pub ring_in : Traffic → Bool → Ring
ring_in traffic is_whole = record {
  start = traffic.outline.start;
  end = traffic.outline.end;
  is_whole = is_whole;
  points = traffic.tapped.point_of.items;
  ways = traffic.tapped.way_of.items;
}

-- what is told of a capture by the octets of its packets
pub record IsGathered (capture : CaptureFields) (asked : Asked) (gathered : Gathered) : Type 0 where
  pub came : IsTraffic asked.choice capture gathered.traffic gathered.copies.items
  pub contents : AreContents (ring_in gathered.traffic asked.is_whole) gathered.copies.items gathered.traffic.tapped.taps.items gathered.contents

-- what is told of what came by the taps
pub record IsTold (traffic : Traffic) (copies : List CaughtFields) (asked : Asked) (expected : List (List ℕ)) (told : Told) : Type 0 where
  pub found : AreFindings (ring_in traffic asked.is_whole) copies traffic.tapped.taps.items (length traffic.tapped.points.items) told.findings
  pub settled : IsSettled (ring_in traffic asked.is_whole) traffic.tapped.taps.items (length traffic.tapped.points.items) traffic copies asked expected told.findings told.settled

-- all of it together: frames are the copies that began one
abbrev pub health_in : Traffic → Findings → Settled → Health
health_in traffic findings settled = record {
  outline = traffic.outline;
  tapped = traffic.tapped;
  loads = traffic.loads;
  points = findings.measured.points;
  directions = findings.measured.directions;
  spans = findings.measured.spans;
  sources = findings.sources.macs;
  counts = findings.known.counts;
  groups = findings.known.groups;
  elsewhere = findings.known.ledger.elsewhere;
  life_numbers = findings.known.lives.numbers;
  numbers = findings.known.ledger.numbers;
  abouts = findings.known.abouts.all;
  vlans = settled.vlans;
  untagged = settled.untagged;
  malformed = settled.malformed;
  needed = greatest findings.measured.needed.items;
  crowd = findings.measured.crowd;
  frames = count_by (λ m. m.begins) findings.seen.marks.items;
  twice = twice_among findings.known.counts.items;
  judged = judged_among findings.known.counts.items;
  absent = settled.absent;
  reasons = settled.reasons;
}

-- what is told of a capture, in which these sources are expected
pub record IsHealth (capture : CaptureFields) (asked : Asked) (expected : List (List ℕ)) (health : Health) : Type 0 where
  pub traffic : Traffic
  pub findings : Findings
  pub settled : Settled
  pub made : health ≡ health_in traffic findings settled
  pub copies : List CaughtFields
  pub came : IsTraffic asked.choice capture traffic copies
  pub found : AreFindings (ring_in traffic asked.is_whole) copies traffic.tapped.taps.items (length traffic.tapped.points.items) findings
  pub told : IsSettled (ring_in traffic asked.is_whole) traffic.tapped.taps.items (length traffic.tapped.points.items) traffic copies asked expected findings settled
  pub frames : health.frames ≡ count_copies begins (reverse copies)

-- over 1024 sources came by the taps of a capture
pub record HasTooMany (capture : CaptureFields) (asked : Asked) : Type 0 where
  pub traffic : Traffic
  pub copies : List CaughtFields
  pub came : IsTraffic asked.choice capture traffic copies
  pub many : HasManySources copies

-- why nothing is told
abbrev pub IsFaultOf : CaptureFields → Asked → HealthFault → Type 0
IsFaultOf capture asked fault.Sources = HasTooMany capture asked
IsFaultOf capture asked fault.Memory = Unit {0}
