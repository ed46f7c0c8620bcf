-- Each expected copy was matched exactly where one observed copy has it, and no other.
use Rattle.std.proofs.Common.{◌≡◌, ℕ, zero, suc, ◌+◌, ◌<◌, ◌≤◌, ◌∙◌, Bool, true, false, not, nat_lt, List, [], ◌∷◌, length, Option, refl, ap, sym, subst, arith, slice_get, unwrap_or, if◌then◌else◌}
use Rattle.std.proofs.lemmas.Bool.{lt-ltb}
use Rattle.std.proofs.lemmas.List.{get_or_default}
use Rattle.std.proofs.lemmas.Option.{unwrap_or-slice_get}
use Rattle.hsr_frame.specs.Cases.{first_of}
use Rattle.hsr_tap_device.specs.Device.{DeviceFields}
use Rattle.hsr_playback.specs.Playing.{PlayedFields}
use Rattle.hsr_playback.specs.declared.expected.Expected.{Expected}
use Rattle.hsr_playback.specs.declared.passage.Passage.{Passage}
use Rattle.hsr_playback.specs.declared.taken.Jump.{Jump}
use Rattle.hsr_judging.specs.Fates.{expected_fate, expected_fates, expected_from, is_open, may_be_missing, observed_from}
use Rattle.hsr_judging.specs.Judged.{IsMatchedOnce, JudgementFields, is_matched, matched_by, rule_of}
use Rattle.hsr_judging.specs.Matching.{Matched, is_alone, matched}
use Rattle.hsr_judging.specs.Numbers.{jumps_told}
use Rattle.hsr_judging.specs.Partition.{IsPartition, holders, one_if}
use Rattle.hsr_judging.specs.declared.fates.ExpectedFate.{ExpectedFate}
use Rattle.hsr_judging.specs.declared.fates.ExpectedFate.TheVariants as expected
use Rattle.hsr_judging.specs.declared.matching.Got.{Got}
use Rattle.hsr_judging.proofs.Parted.{matched_all, matched_parts}

-- ---- the fate of one expected copy

left_alone : (outside missing : Bool) → is_matched (first_of ((not true, expected.Matched) ∷ (outside, expected.Open) ∷ (missing, expected.Ignored) ∷ []) expected.Missing) ≡ false
left_alone true missing = refl
left_alone false true = refl
left_alone false false = refl

fate_of : (device : DeviceFields) (last : ℕ) (e : Expected) (alone : Bool) → is_matched (expected_fate device last e alone) ≡ not alone
fate_of device last e false = refl
fate_of device last e true = left_alone (is_open device last e) (may_be_missing device e)

-- the fate at a place, of those from an index on
fate_at : (device : DeviceFields) (last : ℕ) (alone : List Bool) (n : ℕ) (es : List Expected) (k : ℕ) → k < length es
    → is_matched (unwrap_or (slice_get (expected_from device last alone n es) k) expected.Missing) ≡ not (unwrap_or (slice_get alone (n + k)) true)
fate_at device last alone n [] k h = absurd (omega arith)
fate_at device last alone n (e ∷ es) zero h =
    let here : n ≡ n + 0 = omega arith in
    fate_of device last e (unwrap_or (slice_get alone n) true) ∙ ap (λ i. not (unwrap_or (slice_get alone i) true)) here
fate_at device last alone n (e ∷ es) (suc k) h =
    let next : n + 1 + k ≡ n + suc k = omega arith in
    fate_at device last alone (n + 1) es k (omega arith) ∙ ap (λ i. not (unwrap_or (slice_get alone i) true)) next

fates_long : (device : DeviceFields) (last : ℕ) (alone : List Bool) (n : ℕ) (es : List Expected) → length (expected_from device last alone n es) ≡ length es
fates_long device last alone n [] = refl
fates_long device last alone n (e ∷ es) = ap suc (fates_long device last alone (n + 1) es)

seen_long : (device : DeviceFields) (gots : List (Option Got)) (jumps : List Jump) (n : ℕ) (ss : List Passage) → length (observed_from device gots jumps n ss) ≡ length ss
seen_long device gots jumps n [] = refl
seen_long device gots jumps n (s ∷ ss) = ap suc (seen_long device gots jumps (n + 1) ss)

-- ---- one holder, or none

counted : (held : ℕ) (alone fate : Bool) → held + one_if alone ≡ 1 → fate ≡ not alone → held ≡ one_if fate
counted held true true h p = absurd (cc)
counted held true false h p = omega arith
counted held false true h p = omega arith
counted held false false h p = absurd (cc)

one_there : (i n : ℕ) → i < n → one_if (nat_lt i n) ≡ 1
one_there i n h = ap one_if (lt-ltb i n h)

held_once : (device : DeviceFields) (last : ℕ) (es : List Expected) (m : Matched) (i : ℕ) → length m.1 ≡ length es → IsPartition (length es) m → i < length es
    → holders i m.0 ≡ one_if (is_matched (unwrap_or (slice_get (expected_fates device last es m.1) i) expected.Missing))
held_once device last es m i long parts h =
    let fate = fate_at device last m.1 0 es i h in
    let place : 0 + i ≡ i = omega arith in
    let within : i < length m.1 = omega arith in
    let same = unwrap_or-slice_get m.1 i true ∙ get_or_default m.1 i true false within ∙ sym (unwrap_or-slice_get m.1 i false) in
    let told = fate ∙ ap (λ k. not (unwrap_or (slice_get m.1 k) true)) place ∙ ap not same in
    counted (holders i m.0) (is_alone m.1 i) (is_matched (unwrap_or (slice_get (expected_fates device last es m.1) i) expected.Missing))
    (parts i ∙ one_there i (length es) h) told

once : (device : DeviceFields) (ss : List Passage) (last own : ℕ) (played : PlayedFields) (jumps : List Jump) → IsMatchedOnce (matched_by device ss last own jumps played)
unfolding matched_by
once device ss last own played jumps =
    let m : Matched = matched device.times (rule_of device true) played.expected ss in
    let all = matched_all device.times (rule_of device true) played.expected ss in
    let parts = matched_parts device.times (rule_of device true) played.expected ss in
    record {
      gots_long = all.0;
      observed_long = seen_long device m.0 (jumps_told jumps played.expected m.0) 0 ss;
      expected_long = fates_long device last m.1 0 played.expected;
      once = λ i h. held_once device last played.expected m i all.1 parts h;
    }

pub once_at : (j : JudgementFields) (device : DeviceFields) (ss : List Passage) (last own : ℕ) (played : PlayedFields) (jumps : List Jump)
    → j ≡ matched_by device ss last own jumps played → IsMatchedOnce j
once_at j device ss last own played jumps e = subst (λ (k : JudgementFields). IsMatchedOnce k) (sym e) (once device ss last own played jumps)
