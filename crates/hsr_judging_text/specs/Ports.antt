-- What came and left by each end.
use Rattle.std.specs.Prelude.{ℕ, ◌+◌, ◌-◌, ◌/◌, ◌==◌, ◌&&◌, ◌||◌, not, nat_le, nat_lt, is_some, Bool, true, false, if◌then◌else◌, List, [], ◌∷◌, ◌++◌, codes, length, slice_get, Option, Some, None}
use Rattle.std.specs.Fmt.{decimal}
use Rattle.std.specs.List.{count_by, filter, flat_map, range_with_len}
use Rattle.std.specs.Option.{option_to_list}
use Rattle.hsr_node.specs.declared.role.Role.{Role}
use Rattle.hsr_node.specs.declared.role.Role.TheVariants as role
use Rattle.hsr_capture_reader.specs.Fields.{capped_sum}
use Rattle.hsr_tap_device.specs.Words.{end_word, has_end, is_same_end}
use Rattle.hsr_tap_device.specs.declared.device.End.{End}
use Rattle.hsr_tap_device.specs.declared.device.End.TheVariants as at
use Rattle.hsr_playback.specs.Letting.{has_in, has_out}
use Rattle.hsr_playback.specs.declared.expected.Expected.{Expected}
use Rattle.hsr_playback.specs.declared.passage.Heading.{Heading}
use Rattle.hsr_playback.specs.declared.passage.Heading.TheVariants.{In, Out}
use Rattle.hsr_playback.specs.declared.passage.Passage.{Passage}
use Rattle.hsr_playback.specs.declared.taps.Taps.{Taps}
use Rattle.hsr_judging.specs.Judged.{JudgementFields}
use Rattle.hsr_judging.specs.declared.fates.ExpectedFate.{ExpectedFate}
use Rattle.hsr_judging.specs.declared.fates.ExpectedFate.TheVariants as expected
use Rattle.hsr_judging.specs.declared.fates.ObservedFate.{ObservedFate}
use Rattle.hsr_judging.specs.declared.fates.ObservedFate.TheVariants as observed
use Rattle.hsr_judging_text.specs.Lines.{SceneFields, matched_at}
use Rattle.hsr_judging_text.specs.declared.ports.Counts.{Counts}

-- ---- fates

-- a number for each, so that fates can be told apart
abbrev pub observed_number : ObservedFate → ℕ
observed_number observed.Same = 0
observed_number observed.Late = 1
observed_number observed.Altered = 2
observed_number observed.Extra = 3
observed_number observed.Ignored = 4
observed_number observed.Open = 5

abbrev pub expected_number : ExpectedFate → ℕ
expected_number expected.Matched = 0
expected_number expected.Missing = 1
expected_number expected.Ignored = 2
expected_number expected.Open = 3

abbrev pub is_observed_as : ObservedFate → ObservedFate → Bool
is_observed_as fate other = observed_number other == observed_number fate

abbrev pub is_expected_as : ExpectedFate → ExpectedFate → Bool
is_expected_as fate other = expected_number other == expected_number fate

-- how many copies have a fate
abbrev pub observed_as : JudgementFields → ObservedFate → ℕ
observed_as j fate = count_by (is_observed_as fate) j.observed_fates

abbrev pub expected_as : JudgementFields → ExpectedFate → ℕ
expected_as j fate = count_by (is_expected_as fate) j.expected_fates

-- ---- the copies of an end

abbrev pub left_by : End → Option Passage → Bool
left_by end None = false
left_by end (Some s) = is_same_end s.end end

-- how many observed copies left by an end
abbrev pub seen_at : JudgementFields → End → ℕ
seen_at j end = count_by (λ k. left_by end (slice_get j.observed k)) (range_with_len 0 (length j.observed))

abbrev pub has_observed : ObservedFate → Option ObservedFate → Bool
has_observed wanted None = false
has_observed wanted (Some other) = is_observed_as wanted other

abbrev pub is_seen_as : JudgementFields → End → ObservedFate → ℕ → Bool
is_seen_as j end fate k = left_by end (slice_get j.observed k) && has_observed fate (slice_get j.observed_fates k)

-- how many of them have a fate
abbrev pub seen_as : JudgementFields → End → ObservedFate → ℕ
seen_as j end fate = count_by (is_seen_as j end fate) (range_with_len 0 (length j.observed))

abbrev pub leaves_by : End → Option Expected → Bool
leaves_by end None = false
leaves_by end (Some e) = is_same_end e.out end

-- how many copies were expected at an end
abbrev pub due_at : JudgementFields → End → ℕ
due_at j end = count_by (λ i. leaves_by end (slice_get j.played.expected i)) (range_with_len 0 (length j.played.expected))

abbrev pub has_expected : ExpectedFate → Option ExpectedFate → Bool
has_expected wanted None = false
has_expected wanted (Some other) = is_expected_as wanted other

abbrev pub is_due_as : JudgementFields → End → ExpectedFate → ℕ → Bool
is_due_as j end fate i = leaves_by end (slice_get j.played.expected i) && has_expected fate (slice_get j.expected_fates i)

-- how many of them have a fate
abbrev pub due_as : JudgementFields → End → ExpectedFate → ℕ
due_as j end fate = count_by (is_due_as j end fate) (range_with_len 0 (length j.played.expected))

-- how many copies of each fate left by an end, or should have
unfoldable pub counts_at : JudgementFields → End → Counts
counts_at j end = record {
  expected = due_at j end;
  seen = seen_at j end;
  same = seen_as j end observed.Same;
  late = seen_as j end observed.Late;
  altered = seen_as j end observed.Altered;
  missing = due_as j end expected.Missing;
  extra = seen_as j end observed.Extra;
  ignored = capped_sum (seen_as j end observed.Ignored) (due_as j end expected.Ignored);
  left_open = capped_sum (seen_as j end observed.Open) (due_as j end expected.Open);
}

-- ---- the ends that are told

abbrev pub all_ends : List End
all_ends = at.A ∷ at.B ∷ at.C ∷ at.D ∷ at.I ∷ at.Up ∷ []

-- a QuadBox's host is told only where it is tapped
abbrev pub is_idle : Role → End → Bool
is_idle role.QuadBox at.Up = true
is_idle role end = false

abbrev pub is_tapped : Taps → End → Bool
is_tapped taps end = has_in taps end || has_out taps end

abbrev pub is_told : Role → Taps → End → Bool
is_told role taps end = has_end role end && (not (is_idle role end) || is_tapped taps end)

-- those of the role, in their order
abbrev pub told_ends : Role → Taps → List End
told_ends role taps = filter (is_told role taps) all_ends

-- those of which is told and that aren't tapped on the way out
abbrev pub not_out : Taps → End → Bool
not_out taps end = not (has_out taps end)

abbrev pub not_tapped : Taps → List End → List End
not_tapped taps ends = filter (not_out taps) ends

-- ---- a port's line

abbrev pub goes_in : Heading → Bool
goes_in In = true
goes_in Out = false

abbrev pub came_at : End → Passage → Bool
came_at end p = is_same_end p.end end && goes_in p.heading

-- how many packets went in at an end, if that is tapped
abbrev pub ins_at : Taps → List Passage → End → Option ℕ
ins_at taps passages end = if has_in taps end then Some (count_by (came_at end) passages) else None

-- what is 0 is told in full alone
abbrev pub count_text : Bool → List ℕ → ℕ → List ℕ
count_text full word n = if full || nat_lt 0 n then word ++ decimal n else []

unfoldable pub right_text : Bool → Counts → List ℕ
right_text full c =
    count_text full (codes " expected ") c.expected ++ count_text full (codes " seen ") c.seen ++ count_text full (codes " same ") c.same
    ++ count_text full (codes " late ") c.late ++ count_text full (codes " altered ") c.altered

unfoldable pub wrong_text : Bool → Counts → List ℕ
wrong_text full c =
    count_text full (codes " missing ") c.missing ++ count_text full (codes " extra ") c.extra ++ count_text full (codes " ignored ") c.ignored
    ++ count_text full (codes " open ") c.left_open

unfoldable pub counts_text : Bool → Counts → List ℕ
counts_text full c = right_text full c ++ wrong_text full c ++ codes "\n"

-- ---- delays

-- A delay in microseconds, rounded down, with 2^63 added, so that delays are in the order of their numbers: copies may be captured before
-- what caused them.
unfoldable pub delay_between : ℕ → ℕ → ℕ
delay_between cause seen =
    if nat_le cause seen then 9223372036854775808 + (seen - cause) / 1000 else 9223372036854775808 - (cause - seen + 999) / 1000

abbrev pub delay_text : ℕ → List ℕ
delay_text d = if nat_lt d 9223372036854775808 then codes "-" ++ decimal (9223372036854775808 - d) else decimal (d - 9223372036854775808)

abbrev pub delay_if : End → Option Passage → Option Expected → Option ℕ
delay_if end (Some s) (Some e) = if is_same_end s.end end && is_some e.by then Some (delay_between e.moment s.moment) else None
delay_if end _ _ = None

-- how long after its cause a copy left by an end, if it was matched, and the device didn't send it by itself
abbrev pub delay_of : JudgementFields → End → ℕ → List ℕ
delay_of j end k = option_to_list (delay_if end (slice_get j.observed k) (matched_at j k))

unfoldable pub delays_at : JudgementFields → End → List ℕ
delays_at j end = flat_map (delay_of j end) (range_with_len 0 (length j.observed))

-- numbers in their order
abbrev pub inserted : ℕ → List ℕ → List ℕ
inserted n [] = n ∷ []
inserted n (m ∷ ms) = if nat_le n m then n ∷ m ∷ ms else m ∷ inserted n ms

abbrev pub ordered : List ℕ → List ℕ
ordered [] = []
ordered (n ∷ ns) = inserted n (ordered ns)

abbrev pub delay_or : Option ℕ → List ℕ
delay_or None = codes "-"
delay_or (Some d) = delay_text d

-- the least, the lower median and the greatest of delays that are in order
unfoldable pub spread_line : End → List ℕ → List ℕ
spread_line end ds =
    codes "delay " ++ end_word end ++ codes " min " ++ delay_or (slice_get ds 0) ++ codes " mid " ++ delay_or (slice_get ds ((length ds - 1) / 2))
    ++ codes " max " ++ delay_or (slice_get ds (length ds - 1)) ++ codes "\n"

abbrev pub delay_line : JudgementFields → End → List ℕ
delay_line j end = spread_line end (ordered (delays_at j end))

-- ---- the lines of a port

abbrev pub delay_line_if : Bool → JudgementFields → End → List ℕ
delay_line_if full j end = if full then delay_line j end else []

-- what left, if that is tapped
abbrev pub outs_text : Bool → SceneFields → Taps → End → List ℕ
outs_text full scene taps end =
    if has_out taps end then counts_text full (counts_at scene.judgement end) ++ delay_line_if full scene.judgement end
    else codes " out not tapped\n"

-- how many packets went in, if that is tapped
abbrev pub ins_text : Bool → Option ℕ → List ℕ
ins_text full (Some count) = count_text full (codes " in ") count
ins_text full None = codes " in -"

unfoldable pub port_lines : Bool → SceneFields → Taps → End → List ℕ
port_lines full scene taps end =
    codes "port " ++ end_word end ++ ins_text full (ins_at taps scene.passages end) ++ outs_text full scene taps end
