-- Reasons and the verdict.
--     reason_line    the line of a reason
--     verdict_text   the last line: what the ring's health rests on, or the first reason
use Rattle.std.specs.Prelude.{ℕ, ◌/◌, List, [], ◌∷◌, ◌++◌, codes, Option, Some, None, slice_get}
use Rattle.std.specs.Fmt.{decimal}
use Rattle.std.specs.List.{flat_map}
use Rattle.hsr_frame.specs.declared.fault.FrameFault.{FrameFault}
use Rattle.hsr_frame.specs.declared.fault.FrameFault.TheVariants as fault
use Rattle.hsr_text.specs.Words.{mac_text}
use Rattle.hsr_health.specs.declared.health.Health.{Health}
use Rattle.hsr_health.specs.declared.reason.Reason.{Reason}
use Rattle.hsr_health.specs.declared.reason.Spot.{Spot}
use Rattle.hsr_health.specs.declared.reason.What.{What}
use Rattle.hsr_health.specs.declared.reason.What.TheVariants as what
use Rattle.hsr_health.specs.declared.reason.Word.{Word}
use Rattle.hsr_health.specs.declared.reason.Word.TheVariants as word
use Rattle.hsr_health_text.specs.Words.{hex_text, name_text, pair_text, us_since}

-- ---- words

abbrev pub word_text : Word → List ℕ
word_text word.Empty = codes "empty"
word_text word.Unjudged = codes "unjudged"
word_text word.Dropped = codes "dropped"
word_text word.Absent = codes "absent"
word_text word.Storm = codes "storm"
word_text word.Again = codes "again"
word_text word.Clash = codes "clash"
word_text word.Late = codes "late"
word_text word.OneSided = codes "one-sided"
word_text word.Lost = codes "lost"
word_text word.Overtaken = codes "overtaken"
word_text word.OneWay = codes "one-way"
word_text word.Restart = codes "restart"
word_text word.Crowded = codes "crowded"
word_text word.Silent = codes "silent"
word_text word.Life = codes "life"
word_text word.Malformed = codes "malformed"
word_text word.Untagged = codes "untagged"
word_text word.Size = codes "size"
word_text word.Lane = codes "lane"

abbrev pub fault_text : FrameFault → List ℕ
fault_text fault.Short = codes "short"
fault_text fault.Long = codes "long"
fault_text fault.GroupSource = codes "group-source"
fault_text fault.DoubleVlan = codes "vlan"
fault_text fault.ShortTag = codes "short-tag"
fault_text fault.NestedTag = codes "nested-tag"

-- ---- what is told of the first that a reason counts

-- a frame, by its source and its number
unfoldable pub frame_text : List ℕ → ℕ → List ℕ
frame_text source number = mac_text source ++ pair_text (codes "number") number

unfoldable pub interface_text : ℕ → List ℕ
interface_text interface = codes "interface " ++ decimal interface ++ codes " "

abbrev pub name_at : Option (List ℕ) → List ℕ
name_at (Some name) = name_text name
name_at None = codes "-"

-- a point, by its name
unfoldable pub point_text : List (List ℕ) → ℕ → List ℕ
point_text points point = codes "point " ++ name_at (slice_get points point)

unfoldable pub packets_text : ℕ → ℕ → List ℕ
packets_text interface packets = codes "interface " ++ decimal interface ++ pair_text (codes "packets") packets

unfoldable pub copy_text : ℕ → List ℕ → ℕ → List ℕ
copy_text interface source number = interface_text interface ++ frame_text source number

unfoldable pub after_text : List ℕ → ℕ → ℕ → List ℕ
after_text source number time = frame_text source number ++ pair_text (codes "after") (time / 1000)

unfoldable pub way_text : List (List ℕ) → ℕ → ℕ → List ℕ
way_text points point way = point_text points point ++ pair_text (codes "way") way ++ codes " alone"

unfoldable pub alone_text : List (List ℕ) → ℕ → List ℕ → ℕ → ℕ → List ℕ
alone_text points point source number way =
    point_text points point ++ codes " " ++ frame_text source number ++ pair_text (codes "way") way ++ codes " alone"

unfoldable pub numbers_text : List ℕ → ℕ → ℕ → ℕ → List ℕ
numbers_text source first last missing =
    mac_text source ++ pair_text (codes "numbers") first ++ pair_text (codes "to") last ++ pair_text (codes "missing") missing

unfoldable pub behind_text : ℕ → List ℕ → ℕ → ℕ → List ℕ
behind_text interface source number behind = copy_text interface source number ++ pair_text (codes "behind") behind

unfoldable pub restart_text : List ℕ → ℕ → ℕ → List ℕ
restart_text source number after = frame_text source number ++ pair_text (codes "after") after

unfoldable pub crowd_text : ℕ → ℕ → List ℕ
crowd_text frames table = decimal frames ++ codes " frames in 400000 us, table " ++ decimal table

unfoldable pub silence_text : List ℕ → ℕ → List ℕ
silence_text source time = mac_text source ++ pair_text (codes "for") (time / 1000)

unfoldable pub unheard_text : List ℕ → List ℕ
unheard_text source = mac_text source ++ codes " no supervision"

unfoldable pub life_text : List ℕ → ℕ → ℕ → List ℕ
life_text source number after =
    mac_text source ++ codes " supervision" ++ pair_text (codes "number") number ++ pair_text (codes "after") after

unfoldable pub malformed_text : ℕ → FrameFault → List ℕ
malformed_text interface fault = interface_text interface ++ fault_text fault

unfoldable pub untagged_text : ℕ → ℕ → List ℕ → List ℕ
untagged_text interface ethertype source = interface_text interface ++ codes "type " ++ hex_text ethertype ++ codes " from " ++ mac_text source

unfoldable pub size_text : List ℕ → ℕ → ℕ → ℕ → List ℕ
size_text source number size is = frame_text source number ++ pair_text (codes "size") size ++ pair_text (codes "is") is

unfoldable pub lane_text : List ℕ → ℕ → ℕ → List ℕ
lane_text source number path = frame_text source number ++ pair_text (codes "path") path

abbrev pub what_text : List (List ℕ) → What → List ℕ
what_text points what.NoFrame = codes "no tagged frame"
what_text points what.AllOpen = codes "all group frames are open"
what_text points (what.Packets interface packets) = packets_text interface packets
what_text points (what.Source source) = mac_text source
what_text points (what.Copy interface source number) = copy_text interface source number
what_text points (what.Frame source number) = frame_text source number
what_text points (what.After source number time) = after_text source number time
what_text points (what.Way point way) = way_text points point way
what_text points (what.Numbers source first last missing) = numbers_text source first last missing
what_text points (what.Behind interface source number behind) = behind_text interface source number behind
what_text points (what.Alone point source number way) = alone_text points point source number way
what_text points (what.Restart source number after) = restart_text source number after
what_text points (what.Frames frames table) = crowd_text frames table
what_text points (what.Silence source time) = silence_text source time
what_text points (what.NoSupervision source) = unheard_text source
what_text points (what.Life source number after) = life_text source number after
what_text points (what.Fault interface fault) = malformed_text interface fault
what_text points (what.Untagged interface ethertype source) = untagged_text interface ethertype source
what_text points (what.Size source number size is) = size_text source number size is
what_text points (what.Lane source number path) = lane_text source number path

-- ---- lines

-- where a reason first holds: which of the file's packets, and its moment
unfoldable pub spot_text : ℕ → Option Spot → List ℕ
spot_text start (Some spot) = pair_text (codes "packet") spot.packet ++ pair_text (codes "at") (us_since start spot.at)
spot_text start None = codes " packet - at -"

-- where it first holds, and what is told of that
unfoldable pub rest_text : ℕ → List (List ℕ) → Reason → List ℕ
rest_text start points reason = spot_text start reason.spot ++ codes " " ++ what_text points reason.what ++ codes "\n"

unfoldable pub reason_line : ℕ → List (List ℕ) → Reason → List ℕ
reason_line start points reason =
    codes "reason " ++ word_text reason.word ++ codes " " ++ decimal reason.count ++ rest_text start points reason

unfoldable pub absent_line : List ℕ → List ℕ
absent_line mac = codes "absent " ++ mac_text mac ++ codes "\n"

-- how many frames there were; how many group frames came twice, of how many that were judged; and for how long
unfoldable pub healthy_line : Health → List ℕ
healthy_line health =
    codes "healthy " ++ decimal health.frames ++ pair_text (codes "twice") health.twice ++ pair_text (codes "of") health.judged
    ++ pair_text (codes "for") (us_since health.outline.start health.outline.end) ++ codes "\n"

unfoldable pub doubt_line : ℕ → List (List ℕ) → Reason → List ℕ
doubt_line start points reason = codes "doubt " ++ word_text reason.word ++ rest_text start points reason

-- the first reason, or that the ring is healthy, where there is none
abbrev pub verdict_by : Health → List Reason → List ℕ
verdict_by health [] = healthy_line health
verdict_by health (first ∷ others) = doubt_line health.outline.start health.tapped.points.items first

abbrev pub verdict_text : Health → List ℕ
verdict_text health = verdict_by health health.reasons.items

-- the sources that are absent, the reasons, and the verdict
unfoldable pub reasons_text : Health → List ℕ
reasons_text health =
    flat_map absent_line health.absent.items
    ++ flat_map (reason_line health.outline.start health.tapped.points.items) health.reasons.items ++ verdict_text health
