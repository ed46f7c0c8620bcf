-- What is told of the first that a reason counts; docs/TAP.md has a table of it.
--     copy_what      a copy, by what it is
--     behind_what    a copy that was overtaken
--     way_what       a group frame at a point that has one way alone
--     alone_what     a group frame that came one way alone
--     lost_what      numbers that are missing, and life_what the same of supervision
--     stray_what     a packet that is no copy
use Rattle.std.specs.Prelude.{ℕ, ◌+◌, ◌-◌, ◌%◌, ◌^◌, min, if◌then◌else◌, List, [], ◌∷◌, option_map, slice_get, unwrap_or, Option, Some, None}
use Rattle.hsr_frame_copies.specs.declared.contents.NoCopy.{NoCopy}
use Rattle.hsr_frame_copies.specs.declared.contents.NoCopy.TheVariants.{Unread, Malformed, Untagged}
use Rattle.hsr_frame_groups.specs.Frames.{CaughtFields}
use Rattle.hsr_health.specs.Counted.{number_or}
use Rattle.hsr_heard.specs.declared.abouts.Silence.{Silence}
use Rattle.hsr_health.specs.declared.copy_reasons.Mark.{Mark}
use Rattle.hsr_health.specs.declared.copy_reasons.Mark.TheVariants as the_mark
use Rattle.hsr_health.specs.declared.reason.What.{What}
use Rattle.hsr_health.specs.declared.reason.What.TheVariants as the_what
use Rattle.hsr_number_runs.specs.declared.gaps.Gap.{Gap}
use Rattle.hsr_number_runs.specs.declared.run.Restart.{Restart}
use Rattle.hsr_sightings.specs.Copies.{after, first_there, top_before}
use Rattle.hsr_sightings.specs.Ring.{Ring, point_of, way_of}
use Rattle.hsr_sightings.specs.Seen.{way_of_seen}
use Rattle.hsr_sightings.specs.Sightings.{Sighting, came_by}
use Rattle.hsr_sightings.specs.Fields as the_sighting
use Rattle.hsr_taps.specs.Directions.{interface_of}
use Rattle.hsr_taps.specs.declared.tapping.Stray.{Stray}

-- ---- copies

-- of a copy that came so long after its frame's first copy at its point
abbrev pub copy_what_by : Mark → ℕ → CaughtFields → What
copy_what_by the_mark.Storm time c = the_what.Copy (interface_of c.direction) c.copy.src c.copy.seq
copy_what_by the_mark.Again time c = the_what.Copy (interface_of c.direction) c.copy.src c.copy.seq
copy_what_by the_mark.Clash time c = the_what.Frame c.copy.src c.copy.seq
copy_what_by the_mark.Late time c = the_what.After c.copy.src c.copy.seq time
copy_what_by the_mark.Size time c = the_what.Size c.copy.src c.copy.seq c.copy.size (min (c.copy.length + 6) (2 ^ 64 - 1))
copy_what_by the_mark.Lane time c = the_what.Lane c.copy.src c.copy.seq c.copy.path

abbrev pub copy_what : Mark → Ring → List CaughtFields → CaughtFields → What
copy_what mark ring past c = copy_what_by mark (after (first_there ring past c) c) c

-- with the greater number that came before
abbrev pub behind_what_by : ℕ → CaughtFields → What
behind_what_by number c = the_what.Behind (interface_of c.direction) c.copy.src c.copy.seq number

abbrev pub behind_what : List CaughtFields → CaughtFields → What
behind_what past c = behind_what_by (number_or (top_before past c)) c

-- ---- points, and frames at points

abbrev pub way_what : Ring → CaughtFields → What
way_what ring c = the_what.Way (point_of ring c) (way_of ring c)

abbrev pub alone_what : Ring → Sighting → What
alone_what ring s = the_what.Alone s.point s.first.copy.src s.first.copy.seq (if came_by ring 0 s.copies then 0 else 1)

-- the same of a sighting that is kept, with the copy that began it
abbrev pub kept_alone_what : the_sighting.Sighting → CaughtFields → What
kept_alone_what s c = the_what.Alone s.point c.copy.src c.copy.seq (way_of_seen s)

-- ---- sources and their numbers

-- the address of a source, by its index
abbrev pub mac_of : List (List ℕ) → ℕ → List ℕ
mac_of macs source = unwrap_or (slice_get macs source) (0 ∷ 0 ∷ 0 ∷ 0 ∷ 0 ∷ 0 ∷ [])

-- with the source of the number behind the gap
abbrev pub lost_what : List (List ℕ) → Gap → What
lost_what macs gap = the_what.Numbers (mac_of macs gap.sender) gap.first gap.last gap.missing

-- the number behind the gap, and the one in front of it
abbrev pub life_what : List (List ℕ) → Gap → What
life_what macs gap = the_what.Life (mac_of macs gap.sender) ((gap.last + 1) % 65536) ((gap.first + 65535) % 65536)

abbrev pub restart_what : List (List ℕ) → Restart → What
restart_what macs restart = the_what.Restart (mac_of macs restart.sender) restart.number restart.after

-- of the first silence, or else of the first of these addresses
abbrev pub silent_what : Option Silence → List (List ℕ) → Option What
silent_what (Some silence) untold = Some (the_what.Silence silence.mac (silence.until - silence.from))
silent_what None untold = option_map (λ mac. the_what.NoSupervision mac) (slice_get untold 0)

-- ---- packets that are no copies

abbrev pub stray_what : Stray → What
stray_what stray = by_what stray.what
  where
    by_what : NoCopy → What
    by_what (Malformed fault) = the_what.Fault stray.interface fault
    by_what (Untagged frame) = the_what.Untagged stray.interface frame.kind frame.src
    by_what Unread = the_what.NoFrame
