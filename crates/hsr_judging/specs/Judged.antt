-- All of a judgement: what the reference answers, which observed copy is which expected one, and what becomes of each.
--     numbers_given    the numbers that the device gave, by a first matching
--     judged           the judgement
--     IsNothingLeft    no copy is late, altered, extra or missing, and some copy is the same
--     IsMatchedOnce    each expected copy was matched exactly where one observed copy has it, and no other
use Rattle.std.specs.Prelude.{ℕ, ◌≡◌, ◌+◌, ◌<◌, Bool, true, false, List, [], ◌∷◌, length, slice_get, unwrap_or, Option, Some, None, if◌then◌else◌}
use Rattle.std.specs.List.{Contains, count_by, filter}
use Rattle.hsr_tap_device.specs.Device.{DeviceFields}
use Rattle.hsr_tap_device.specs.declared.device.End.TheVariants as at
use Rattle.hsr_playback.specs.Letting.{has_in}
use Rattle.hsr_playback.specs.Own.{own_begins}
use Rattle.hsr_playback.specs.Playing.{PlayedFields, answers_to}
use Rattle.hsr_playback.specs.Taken.{before, jumps_from}
use Rattle.hsr_playback.specs.declared.expected.Expected.{Expected}
use Rattle.hsr_playback.specs.declared.passage.Heading.{Heading}
use Rattle.hsr_playback.specs.declared.passage.Heading.TheVariants.{In, Out}
use Rattle.hsr_playback.specs.declared.passage.Passage.{Passage}
use Rattle.hsr_playback.specs.declared.taken.Jump.{Jump}
use Rattle.hsr_playback.specs.declared.taken.Taken.{Taken}
use Rattle.hsr_playback.specs.declared.taps.Taps.{Taps}
use Rattle.hsr_judging.specs.Fates.{expected_fates, observed_fates}
use Rattle.hsr_judging.specs.Matching.{Matched, matched}
use Rattle.hsr_judging.specs.Numbers.{jumps_told, taken_of}
use Rattle.hsr_judging.specs.Partition.{holders, one_if}
use Rattle.hsr_judging.specs.declared.agreement.Rule.{Rule}
use Rattle.hsr_judging.specs.declared.fates.ExpectedFate.{ExpectedFate}
use Rattle.hsr_judging.specs.declared.fates.ExpectedFate.TheVariants as expected
use Rattle.hsr_judging.specs.declared.fates.ObservedFate.{ObservedFate}
use Rattle.hsr_judging.specs.declared.fates.ObservedFate.TheVariants as observed
use Rattle.hsr_judging.specs.declared.matching.Got.{Got}

-- ---- what is judged

abbrev pub is_out : Heading → Bool
is_out Out = true
is_out In = false

abbrev pub went_out : Passage → Bool
went_out p = is_out p.heading

-- the copies that left the device
abbrev pub observed_in : List Passage → List Passage
observed_in ps = filter went_out ps

-- whether all that the host sends is in the capture
abbrev pub has_host : DeviceFields → Taps → Bool
has_host device taps = unwrap_or device.host (has_in taps at.Up)

abbrev pub rule_of : DeviceFields → Bool → Rule
rule_of device has_numbers = record { ignored = device.ignored; has_numbers = has_numbers }

-- of each passage whether it begins a frame of the device's own that no interface shows
abbrev pub begins_of : DeviceFields → Taps → List Passage → List Bool
begins_of device taps ps = own_begins device.owner.mac (has_host device taps) device.times.within ps

-- ---- the numbers that the device gave: found by a first matching, in which they need not agree

abbrev pub given_by : DeviceFields → List Passage → List Expected → List Taken
given_by device ps es = taken_of (length ps) es (observed_in ps) (matched device.times (rule_of device false) es (observed_in ps)).0

unfoldable pub numbers_given : ℕ → DeviceFields → Taps → List Passage → List Bool → List Taken
numbers_given capacity device taps ps begins = given_by device ps (answers_to capacity device taps ps begins []).expected

-- ---- the judgement

pub record JudgementFields : Type 0 where
  -- what the reference answered, with the copies that are expected
  pub played : PlayedFields
  -- the copies that left the device
  pub observed : List Passage
  -- for each observed copy the expected one that it was matched with
  pub gots : List (Option Got)
  -- for each observed copy where the device's numbers didn't go on by one
  pub jumps : List Jump
  pub observed_fates : List ObservedFate
  pub expected_fates : List ExpectedFate
  -- how many frames of its own the device began that no interface shows
  pub own : ℕ

abbrev pub judged_by : DeviceFields → List Passage → ℕ → ℕ → PlayedFields → Matched → List Jump → JudgementFields
judged_by device ss last own played m jumps = record {
  played = played;
  observed = ss;
  gots = m.0;
  jumps = jumps;
  observed_fates = observed_fates device ss m.0 jumps;
  expected_fates = expected_fates device last played.expected m.1;
  own = own;
}

-- which observed copy is which expected one, where numbers agree, and the jumps of numbers that were taken over
unfoldable pub matched_by : DeviceFields → List Passage → ℕ → ℕ → List Jump → PlayedFields → JudgementFields
matched_by device ss last own jumps played =
    let m = matched device.times (rule_of device true) played.expected ss in
    judged_by device ss last own played m (jumps_told jumps played.expected m.0)

-- where the device's numbers didn't go on by one
abbrev pub jumps_by : DeviceFields → List Taken → List Jump
jumps_by device taken = jumps_from (record { number = before device.numbers.start; life = before device.numbers.life_start }) taken

abbrev pub judged_with : ℕ → DeviceFields → Taps → List Passage → ℕ → List Bool → List Taken → JudgementFields
judged_with capacity device taps ps last begins taken =
    matched_by device (observed_in ps) last (count_by (λ b. b) begins) (jumps_by device taken) (answers_to capacity device taps ps begins taken)

abbrev pub judged_from : ℕ → DeviceFields → Taps → List Passage → ℕ → List Bool → JudgementFields
judged_from capacity device taps ps last begins =
    judged_with capacity device taps ps last begins (numbers_given capacity device taps ps begins)

unfoldable pub judged : ℕ → DeviceFields → Taps → List Passage → ℕ → JudgementFields
judged capacity device taps ps last = judged_from capacity device taps ps last (begins_of device taps ps)

-- ---- the verdict

-- no observed copy is late, altered or extra, no expected one is missing, and some observed copy is the same
abbrev pub IsNothingLeft : List ObservedFate → List ExpectedFate → Type 0
IsNothingLeft os es =
    (¬ Contains os observed.Late) × (¬ Contains os observed.Altered) × (¬ Contains os observed.Extra)
    × (¬ Contains es expected.Missing) × Contains os observed.Same

-- ---- each copy has one fate

abbrev pub is_matched : ExpectedFate → Bool
is_matched expected.Matched = true
is_matched _ = false

-- each expected copy was matched exactly where one observed copy has it, and no other has it; and each copy has a fate
pub record IsMatchedOnce (j : JudgementFields) : Type 0 where
  pub gots_long : length j.gots ≡ length j.observed
  pub observed_long : length j.observed_fates ≡ length j.observed
  pub expected_long : length j.expected_fates ≡ length j.played.expected
  pub once : (i : ℕ) → i < length j.played.expected → holders i j.gots ≡ one_if (is_matched (unwrap_or (slice_get j.expected_fates i) expected.Missing))
