-- The whole report of a judgement.
--     report_by       its text, by deviations that are in their order
--     IsReport        the text of a judgement
use Rattle.std.specs.Prelude.{ℕ, ◌≡◌, ◌+◌, ◌-◌, ◌/◌, ◌^◌, ◌==◌, min, sum, Bool, if◌then◌else◌, List, [], ◌∷◌, ◌++◌, codes, length, map, slice_get, take, unwrap_or, Option, Some, None}
use Rattle.std.specs.Fmt.{decimal}
use Rattle.std.specs.List.{flat_map}
use Rattle.hsr_frame.specs.Words.{mode_word}
use Rattle.hsr_frame.specs.declared.counters.Counters.{Counters}
use Rattle.hsr_node.specs.Words.{role_word}
use Rattle.hsr_text.specs.Words.{mac_text}
use Rattle.hsr_toml.specs.Line.{shown}
use Rattle.hsr_capture_reader.specs.Fields.{InterfaceFields, capped_sum}
use Rattle.hsr_tap_device.specs.Device.{DeviceFields}
use Rattle.hsr_tap_device.specs.Words.{end_word}
use Rattle.hsr_tap_device.specs.declared.device.End.{End}
use Rattle.hsr_tap_device.specs.declared.device.Owner.{Owner}
use Rattle.hsr_tap_device.specs.declared.device.Passing.{Passing}
use Rattle.hsr_tap_device.specs.declared.device.Passing.TheVariants as by
use Rattle.hsr_tap_device.specs.declared.device.Tap.{Tap}
use Rattle.hsr_playback.specs.declared.taps.Taps.{Taps}
use Rattle.hsr_judging.specs.Judged.{JudgementFields}
use Rattle.hsr_judging.specs.declared.fates.ExpectedFate.TheVariants as expected
use Rattle.hsr_judging.specs.declared.fates.ObservedFate.TheVariants as observed
use Rattle.hsr_tap_passages.specs.Shown.{ShownFields}
use Rattle.hsr_judging_text.specs.Deviations.{IsInOrder, IsToldOnce, deviations, gravest, word_text}
use Rattle.hsr_judging_text.specs.Lines.{SceneFields, line}
use Rattle.hsr_judging_text.specs.Ports.{expected_as, not_tapped, observed_as, port_lines, told_ends}
use Rattle.hsr_judging_text.specs.Sums.{sum_lines}
use Rattle.hsr_judging_text.specs.Verdicts.{verdict_of}
use Rattle.hsr_judging_text.specs.Words.{ignored_text, parted}
use Rattle.hsr_judging_text.specs.declared.deviation.Deviation.{Deviation}
use Rattle.hsr_judging_text.specs.declared.report.Showing.{Showing}

-- ---- the first line

abbrev pub mac_or : Option (List ℕ) → List ℕ
mac_or None = codes "-"
mac_or (Some mac) = mac_text mac

-- role, address and mode
unfoldable pub owner_text : Owner → List ℕ
owner_text o = role_word o.role ++ codes " " ++ mac_or o.mac ++ codes " mode " ++ mode_word o.mode

-- how many packets count, at all interfaces
abbrev pub total : List ℕ → ℕ
total counts = min (sum counts) (2 ^ 64 - 1)

unfoldable pub numbers_text : DeviceFields → ShownFields → List ℕ
numbers_text device shown =
    codes " table " ++ decimal device.table ++ codes " within " ++ decimal device.times.within ++ codes " packets " ++ decimal (total shown.counts)
    ++ codes " us " ++ decimal (shown.length / 1000)

unfoldable pub first_line : DeviceFields → ShownFields → List ℕ
first_line device shown =
    codes "judge 1 " ++ owner_text device.owner ++ numbers_text device shown ++ codes " ignore " ++ ignored_text device.ignored ++ codes "\n"

-- ---- interfaces

abbrev pub passing_text : Passing → List ℕ
passing_text by.In = codes " in"
passing_text by.Out = codes " out"
passing_text by.Lane = codes " lane"
passing_text by.Flags = []

-- what an interface is; a hyphen where it is left out
abbrev pub tap_text : Option Tap → List ℕ
tap_text None = codes "-"
tap_text (Some tap) = end_word tap.end ++ passing_text tap.passing

abbrev pub name_text : List ℕ → List ℕ
name_text name = if length name == 0 then codes "-" else map shown name

unfoldable pub interface_line : ℕ → ℕ → Option Tap → List ℕ → List ℕ
interface_line i packets tap name =
    codes "interface " ++ decimal i ++ codes " packets " ++ decimal packets ++ codes " is " ++ tap_text tap ++ codes " name " ++ name_text name ++ codes "\n"

abbrev pub interface_by : ShownFields → ℕ → InterfaceFields → List ℕ
interface_by shown i interface =
    interface_line i (unwrap_or (slice_get shown.counts i) 0) (unwrap_or (slice_get shown.interfaces i) None) interface.name

abbrev pub interfaces_from : ShownFields → ℕ → List InterfaceFields → List ℕ
interfaces_from shown i [] = []
interfaces_from shown i (x ∷ xs) = interface_by shown i x ++ interfaces_from shown (i + 1) xs

abbrev pub interface_lines : Bool → ShownFields → List InterfaceFields → List ℕ
interface_lines full shown xs = if full then interfaces_from shown 0 xs else []

-- ---- deviations

abbrev pub more_line : ℕ → List ℕ
more_line n = if n == 0 then [] else codes "more " ++ decimal n ++ codes "\n"

-- a line for each of so many deviations at most, then how many more there are
unfoldable pub deviation_lines : SceneFields → ℕ → Bool → List Deviation → List ℕ
deviation_lines scene list all told = flat_map (line scene all) (take list told) ++ more_line (length told - list)

-- ---- what the reference counted

abbrev pub dropped : Counters → ℕ
dropped c = capped_sum (capped_sum (capped_sum (capped_sum c.foreign c.local) c.untagged) c.tagged) c.malformed

unfoldable pub sent_text : ℕ → Counters → List ℕ
sent_text own c = codes "reference own " ++ decimal own ++ codes " sent " ++ decimal c.sent ++ codes " life " ++ decimal c.life ++ codes " up " ++ decimal c.up

unfoldable pub passed_text : Counters → List ℕ
passed_text c =
    codes " forwarded " ++ decimal c.forwarded ++ codes " duplicate " ++ decimal c.duplicate ++ codes " returned " ++ decimal c.returned ++ codes " dropped "
    ++ decimal (dropped c) ++ codes "\n"

unfoldable pub reference_line : JudgementFields → List ℕ
reference_line j = sent_text j.own j.played.counters ++ passed_text j.played.counters

abbrev pub reference_lines : Bool → JudgementFields → List ℕ
reference_lines full j = if full then reference_line j else []

-- ---- the verdict

-- how many copies of both kinds need not agree, and how many may lie outside of the capture
abbrev pub ignored_of : JudgementFields → ℕ
ignored_of j = capped_sum (observed_as j observed.Ignored) (expected_as j expected.Ignored)

abbrev pub open_of : JudgementFields → ℕ
open_of j = capped_sum (observed_as j observed.Open) (expected_as j expected.Open)

-- a device that conforms: how many copies are the same, and what wasn't compared
unfoldable pub conforms_line : JudgementFields → List End → List ℕ
conforms_line j left =
    codes "conforms " ++ decimal (observed_as j observed.Same) ++ codes " ignored " ++ decimal (ignored_of j) ++ codes " open " ++ decimal (open_of j)
    ++ codes " not-tapped " ++ parted end_word left ++ codes "\n"

unfoldable pub counted_text : JudgementFields → ℕ → List ℕ
counted_text j n =
    codes "deviates " ++ decimal n ++ codes " missing " ++ decimal (expected_as j expected.Missing) ++ codes " extra " ++ decimal (observed_as j observed.Extra)
    ++ codes " late " ++ decimal (observed_as j observed.Late) ++ codes " altered " ++ decimal (observed_as j observed.Altered)

unfoldable pub first_text : Deviation → List ℕ
first_text d = codes " first " ++ word_text d.word ++ codes " at " ++ decimal d.at ++ codes " packet " ++ decimal d.packet ++ codes "\n"

-- one that deviates: how many deviations there are, of each word, and the first of the gravest; or nothing was compared
abbrev pub deviates_line : JudgementFields → ℕ → Option Deviation → List ℕ
deviates_line j n None = codes "deviates 0 empty\n"
deviates_line j n (Some d) = counted_text j n ++ first_text d

abbrev pub verdict_line : JudgementFields → List End → List Deviation → List ℕ
verdict_line j left told = if verdict_of j then conforms_line j left else deviates_line j (length told) (gravest told)

-- ---- the whole

unfoldable pub copies_text : Showing → DeviceFields → List InterfaceFields → ShownFields → SceneFields → List Deviation → List ℕ
copies_text showing device interfaces shown scene told =
    first_line device shown ++ interface_lines showing.full shown interfaces ++ deviation_lines scene showing.list showing.octets told ++ sum_lines scene told

unfoldable pub ends_text : Showing → SceneFields → Taps → List End → List Deviation → List ℕ
ends_text showing scene taps ends told =
    flat_map (port_lines showing.full scene taps) ends ++ reference_lines showing.full scene.judgement
    ++ verdict_line scene.judgement (not_tapped taps ends) told

abbrev pub scene_of : DeviceFields → ShownFields → JudgementFields → SceneFields
scene_of device shown j = record { device = device; passages = shown.passages; judgement = j }

abbrev pub report_by : Showing → DeviceFields → List InterfaceFields → ShownFields → Taps → JudgementFields → List Deviation → List ℕ
report_by showing device interfaces shown taps j told =
    copies_text showing device interfaces shown (scene_of device shown j) told
    ++ ends_text showing (scene_of device shown j) taps (told_ends device.owner.role taps) told

-- each copy that deviates is told once, in its order, and the text is the report of them
pub record IsReport (showing : Showing) (device : DeviceFields) (interfaces : List InterfaceFields) (shown : ShownFields) (taps : Taps)
    (j : JudgementFields) (text : List ℕ) : Type 0 where
  pub told : List Deviation
  pub in_order : IsInOrder (deviations j) told
  pub once : IsToldOnce j told
  pub is : text ≡ report_by showing device interfaces shown taps j told

-- it was put behind what stood there
abbrev pub PutsReport : Showing → DeviceFields → List InterfaceFields → ShownFields → Taps → JudgementFields → List ℕ → List ℕ → Type 0
PutsReport showing device interfaces shown taps j before after =
    (text : List ℕ) × (after ≡ before ++ text) × IsReport showing device interfaces shown taps j text
