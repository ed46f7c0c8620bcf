-- The line of a deviation, and its kind.
--     line    the whole line of a deviation
--     kind    what sums count: the words of a line that deviations of one kind have in common
use Rattle.std.specs.Prelude.{ℕ, ◌-◌, ◌/◌, Bool, true, false, List, [], ◌++◌, codes, slice_get, Option, Some, None}
use Rattle.std.specs.Fmt.{decimal}
use Rattle.hsr_tag.specs.Seen.{classified}
use Rattle.hsr_tap_device.specs.Device.{DeviceFields}
use Rattle.hsr_tap_device.specs.Words.{end_word}
use Rattle.hsr_playback.specs.Letting.{number_by}
use Rattle.hsr_playback.specs.declared.expected.Expected.{Expected}
use Rattle.hsr_playback.specs.declared.passage.Passage.{Passage}
use Rattle.hsr_judging.specs.Differences.{differences}
use Rattle.hsr_judging.specs.Fates.{got_at}
use Rattle.hsr_judging.specs.Judged.{JudgementFields}
use Rattle.hsr_judging.specs.Numbers.{copy_of, jumps_in}
use Rattle.hsr_judging.specs.Reasons.{reason_in}
use Rattle.hsr_judging.specs.declared.difference.Difference.{Difference}
use Rattle.hsr_judging.specs.declared.difference.Difference.TheVariants as differ
use Rattle.hsr_judging.specs.declared.matching.Got.{Got}
use Rattle.hsr_judging.specs.declared.matching.Word.{Word as How}
use Rattle.hsr_judging.specs.declared.matching.Word.TheVariants as how
use Rattle.hsr_judging.specs.declared.reason.Reason.{Reason}
use Rattle.hsr_judging_text.specs.Deviations.{word_text}
use Rattle.hsr_judging_text.specs.Frames.{frame_text, stretch_text}
use Rattle.hsr_judging_text.specs.Words.{by_text, field_word, parted, said_text, values_text}
use Rattle.hsr_judging_text.specs.declared.deviation.Deviation.{Deviation}
use Rattle.hsr_judging_text.specs.declared.deviation.Which.{Which}
use Rattle.hsr_judging_text.specs.declared.deviation.Which.TheVariants as which
use Rattle.hsr_judging_text.specs.declared.deviation.Word.{Word}
use Rattle.hsr_judging_text.specs.declared.deviation.Word.TheVariants.{Twice, Missing, Altered, Late, Stray}

-- what lines are told of: the device, what passed its ends, and the judgement
pub record SceneFields : Type 0 where
  pub device : DeviceFields
  pub passages : List Passage
  pub judgement : JudgementFields

-- ---- the front of a line

-- what it is, at which end, when and of which packet
unfoldable pub front_text : Deviation → List ℕ → List ℕ
front_text d out = word_text d.word ++ codes " " ++ out ++ codes " at " ++ decimal d.at ++ codes " packet " ++ decimal d.packet

-- ---- a copy that nothing caused

-- what the reference said of it
abbrev pub reason_at : SceneFields → Passage → Option Reason
reason_at scene s = reason_in scene.passages scene.judgement.played.answers scene.device.times.early s

-- by which end and as which packet its frame came
abbrev pub by_passage : Option Passage → List ℕ
by_passage None = []
by_passage (Some p) = codes " by " ++ end_word p.end ++ codes " packet " ++ decimal p.packet

abbrev pub cause_by : List Passage → Option Reason → List ℕ
cause_by passages None = codes "-"
cause_by passages (Some reason) = said_text reason.said ++ by_passage (slice_get passages reason.passage)

abbrev pub number_in : Option Passage → Option ℕ
number_in None = None
number_in (Some p) = number_by (classified p.octets)

-- the number of the tagged frame that came
abbrev pub number_for : List Passage → Option Reason → Option ℕ
number_for passages None = None
number_for passages (Some reason) = number_in (slice_get passages reason.passage)

-- whether a frame left a second time
abbrev pub twice_word : Word → List ℕ
twice_word Twice = codes "twice"
twice_word Missing = codes "stray"
twice_word Altered = codes "stray"
twice_word Late = codes "stray"
twice_word Stray = codes "stray"

unfoldable pub extra_by : List Passage → Option Reason → Bool → Word → List ℕ → List ℕ
extra_by passages reason all word octets =
    codes " " ++ twice_word word ++ codes " reference " ++ cause_by passages reason ++ frame_text octets (number_for passages reason) all

abbrev pub extra_text : SceneFields → Bool → Word → Passage → List ℕ
extra_text scene all word s = extra_by scene.passages (reason_at scene s) all word s.octets

-- ---- a copy that was matched

-- where the expected copy came from, and the frame that was seen
unfoldable pub came_text : Bool → Expected → Passage → List ℕ
came_text all e s = codes " came by " ++ by_text e.by ++ codes " packet " ++ decimal e.packet ++ frame_text s.octets e.number all

-- how long after its cause it left, in microseconds
unfoldable pub late_text : Bool → Expected → Passage → List ℕ
late_text all e s = codes " after " ++ decimal ((s.moment - e.moment) / 1000) ++ came_text all e s

-- eight octets of each payload from the place on where they differ
abbrev pub stretches : Expected → Passage → Difference → List ℕ
stretches e s (differ.Payload at) = stretch_text e.octets at ++ stretch_text s.octets at
stretches e s _ = []

-- a field in which they differ, with what was expected and what was seen
unfoldable pub difference_text : Expected → Passage → Difference → List ℕ
difference_text e s d = field_word d ++ values_text d ++ stretches e s d

abbrev pub was_altered : How → Bool
was_altered how.Altered = true
was_altered how.Same = false
was_altered how.Late = false

abbrev pub is_altered : Option Got → Bool
is_altered None = false
is_altered (Some got) = was_altered got.word

-- the fields in which an observed copy differs from the expected one
abbrev pub fields_at : SceneFields → ℕ → Expected → Passage → List Difference
fields_at scene k e s =
    differences scene.device.ignored e s (is_altered (got_at scene.judgement.gots k)) (jumps_in scene.judgement.jumps k)

unfoldable pub altered_by : Bool → List Difference → Expected → Passage → List ℕ
altered_by all fields e s = codes " " ++ parted (difference_text e s) fields ++ came_text all e s

abbrev pub altered_text : SceneFields → Bool → ℕ → Expected → Passage → List ℕ
altered_text scene all k e s = altered_by all (fields_at scene k e s) e s

-- ---- lines

-- the expected copy that an observed one was matched with
abbrev pub matched_at : JudgementFields → ℕ → Option Expected
matched_at j k = copy_of j.played.expected (got_at j.gots k)

abbrev pub matched_text : SceneFields → Bool → ℕ → Word → Expected → Passage → List ℕ
matched_text scene all k Late e s = late_text all e s
matched_text scene all k Twice e s = altered_text scene all k e s
matched_text scene all k Missing e s = altered_text scene all k e s
matched_text scene all k Altered e s = altered_text scene all k e s
matched_text scene all k Stray e s = altered_text scene all k e s

abbrev pub rest_text : SceneFields → Bool → ℕ → Word → Option Expected → Passage → List ℕ
rest_text scene all k word None s = extra_text scene all word s
rest_text scene all k word (Some e) s = matched_text scene all k word e s

-- an observed copy that deviates
unfoldable pub seen_text : SceneFields → Bool → Deviation → ℕ → Passage → List ℕ
seen_text scene all d k s = front_text d (end_word s.end) ++ rest_text scene all k d.word (matched_at scene.judgement k) s

-- an expected copy that is missing
unfoldable pub missing_text : Bool → Deviation → Expected → List ℕ
missing_text all d e = front_text d (end_word e.out) ++ codes " came by " ++ by_text e.by ++ frame_text e.octets e.number all

abbrev pub seen_if : SceneFields → Bool → Deviation → ℕ → Option Passage → List ℕ
seen_if scene all d k None = []
seen_if scene all d k (Some s) = seen_text scene all d k s

abbrev pub missing_if : Bool → Deviation → Option Expected → List ℕ
missing_if all d None = []
missing_if all d (Some e) = missing_text all d e

abbrev pub text_by : SceneFields → Bool → Deviation → Which → List ℕ
text_by scene all d (which.Observed k) = seen_if scene all d k (slice_get scene.judgement.observed k)
text_by scene all d (which.Expected i) = missing_if all d (slice_get scene.judgement.played.expected i)

-- the line of a deviation
unfoldable pub line : SceneFields → Bool → Deviation → List ℕ
line scene all d = text_by scene all d d.which ++ codes "\n"

-- ---- kinds

abbrev pub said_if : Option Reason → List ℕ
said_if None = codes "-"
said_if (Some reason) = said_text reason.said

-- of what nothing caused: whether it left twice, and what the reference said
unfoldable pub extra_kind : Word → Option Reason → List ℕ
extra_kind word reason = codes " " ++ twice_word word ++ codes " reference " ++ said_if reason

unfoldable pub late_kind : Expected → List ℕ
late_kind e = codes " came by " ++ by_text e.by

unfoldable pub fields_kind : List Difference → List ℕ
fields_kind fields = codes " " ++ parted field_word fields

abbrev pub matched_kind : SceneFields → ℕ → Word → Expected → Passage → List ℕ
matched_kind scene k Late e s = late_kind e
matched_kind scene k Twice e s = fields_kind (fields_at scene k e s)
matched_kind scene k Missing e s = fields_kind (fields_at scene k e s)
matched_kind scene k Altered e s = fields_kind (fields_at scene k e s)
matched_kind scene k Stray e s = fields_kind (fields_at scene k e s)

abbrev pub rest_kind : SceneFields → ℕ → Word → Option Expected → Passage → List ℕ
rest_kind scene k word None s = extra_kind word (reason_at scene s)
rest_kind scene k word (Some e) s = matched_kind scene k word e s

unfoldable pub seen_kind : SceneFields → Word → ℕ → Passage → List ℕ
seen_kind scene word k s = end_word s.end ++ rest_kind scene k word (matched_at scene.judgement k) s

abbrev pub seen_kind_if : SceneFields → Word → ℕ → Option Passage → List ℕ
seen_kind_if scene word k None = []
seen_kind_if scene word k (Some s) = seen_kind scene word k s

unfoldable pub missing_kind : Expected → List ℕ
missing_kind e = end_word e.out ++ codes " came by " ++ by_text e.by

abbrev pub missing_kind_if : Option Expected → List ℕ
missing_kind_if None = []
missing_kind_if (Some e) = missing_kind e

abbrev pub kind_by : SceneFields → Word → Which → List ℕ
kind_by scene word (which.Observed k) = seen_kind_if scene word k (slice_get scene.judgement.observed k)
kind_by scene word (which.Expected i) = missing_kind_if (slice_get scene.judgement.played.expected i)

-- the kind of a deviation
unfoldable pub kind : SceneFields → Deviation → List ℕ
kind scene d = word_text d.word ++ codes " " ++ kind_by scene d.word d.which
