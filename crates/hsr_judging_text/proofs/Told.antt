-- Each copy that deviates is told once.
use Rattle.std.proofs.Common.{◌≡◌, ◌≢◌, ℕ, ◌+◌, ◌<◌, ◌==◌, Bool, true, List, [], ◌∷◌, length, count_by, slice_get, Option, Some, None, ap, refl, arith, cond, subst}
use Rattle.std.proofs.lemmas.Bool.{eq-eqb, ne_eqb}
use Rattle.std.proofs.lemmas.List.Sorted.{sum_by-IsPermutation}
use Rattle.std.proofs.lemmas.List.Sums.{sum_by-append}
use Rattle.std.proofs.lemmas.Option.{slice_get-get_or}
use Rattle.std.specs.List.{flat_map, range_with_len}
use Rattle.std.specs.List.Sorted.{IsPermutation, IsSortedByKey, IsStableByKey}
use Rattle.std.specs.Option.{option_to_list}
use Rattle.std.specs.Ordering.{nat_cmp}
use Rattle.std.specs.Prelude.{is_some}
use Rattle.hsr_playback.specs.declared.expected.Expected.{Expected}
use Rattle.hsr_playback.specs.declared.passage.Passage.{Passage}
use Rattle.hsr_judging.specs.Judged.{JudgementFields}
use Rattle.hsr_judging.specs.Partition.{one_if}
use Rattle.hsr_judging.specs.declared.fates.ExpectedFate.{ExpectedFate}
use Rattle.hsr_judging.specs.declared.fates.ExpectedFate.TheVariants as expected
use Rattle.hsr_judging.specs.declared.fates.ObservedFate.{ObservedFate}
use Rattle.hsr_judging.specs.declared.fates.ObservedFate.TheVariants as observed
use Rattle.hsr_judging_text.proofs.Order.{in_order}
use Rattle.hsr_judging_text.proofs.Ranges.{none_of, one_of}
use Rattle.hsr_judging_text.specs.Deviations.{IsInOrder, IsToldOnce, deviates, deviations, lacks, missing_at, missing_by, missing_told, observed_at, observed_by, observed_told, tells_due, tells_seen}
use Rattle.hsr_judging_text.specs.declared.deviation.Deviation.{Deviation}

one_here : (k : ℕ) → (0 + cond (k == k) 1 0) ≡ 1
one_here k = ap (λ (b : Bool). 0 + cond b 1 0) (eq-eqb k k refl)

one_not : (n k : ℕ) → n ≢ k → (0 + cond (n == k) 1 0) ≡ 0
one_not n k h = ap (λ (b : Bool). 0 + cond b 1 0) (ne_eqb n k h)

some_there : {X : Type 0} (xs : List X) (k : ℕ) → k < length xs → is_some (slice_get xs k) ≡ true
some_there [] k h = absurd (omega arith)
some_there (x ∷ xs) k h = ap is_some (slice_get-get_or (x ∷ xs) k x h)

-- ---- observed copies

seen_one : (j : JudgementFields) (k : ℕ) (s : Option Passage) (fate : Option ObservedFate) → is_some s ≡ true
    → count_by (tells_seen k) (option_to_list (observed_by j k s fate)) ≡ one_if (deviates fate)
seen_one j k None fate h = absurd (cc)
seen_one j k (Some s) None h = refl
seen_one j k (Some s) (Some observed.Same) h = refl
seen_one j k (Some s) (Some observed.Late) h = one_here k
seen_one j k (Some s) (Some observed.Altered) h = one_here k
seen_one j k (Some s) (Some observed.Extra) h = one_here k
seen_one j k (Some s) (Some observed.Ignored) h = refl
seen_one j k (Some s) (Some observed.Open) h = refl

seen_other : (j : JudgementFields) (k n : ℕ) (s : Option Passage) (fate : Option ObservedFate) → n ≢ k
    → count_by (tells_seen k) (option_to_list (observed_by j n s fate)) ≡ 0
seen_other j k n None fate h = refl
seen_other j k n (Some s) None h = refl
seen_other j k n (Some s) (Some observed.Same) h = refl
seen_other j k n (Some s) (Some observed.Late) h = one_not n k h
seen_other j k n (Some s) (Some observed.Altered) h = one_not n k h
seen_other j k n (Some s) (Some observed.Extra) h = one_not n k h
seen_other j k n (Some s) (Some observed.Ignored) h = refl
seen_other j k n (Some s) (Some observed.Open) h = refl

unseen : (k i : ℕ) (e : Option Expected) (fate : Option ExpectedFate) → count_by (tells_seen k) (option_to_list (missing_by i e fate)) ≡ 0
unseen k i None fate = refl
unseen k i (Some e) None = refl
unseen k i (Some e) (Some expected.Matched) = refl
unseen k i (Some e) (Some expected.Missing) = refl
unseen k i (Some e) (Some expected.Ignored) = refl
unseen k i (Some e) (Some expected.Open) = refl

-- ---- expected copies

due_one : (i : ℕ) (e : Option Expected) (fate : Option ExpectedFate) → is_some e ≡ true → count_by (tells_due i) (option_to_list (missing_by i e fate)) ≡ one_if (lacks fate)
due_one i None fate h = absurd (cc)
due_one i (Some e) None h = refl
due_one i (Some e) (Some expected.Matched) h = refl
due_one i (Some e) (Some expected.Missing) h = one_here i
due_one i (Some e) (Some expected.Ignored) h = refl
due_one i (Some e) (Some expected.Open) h = refl

due_other : (i n : ℕ) (e : Option Expected) (fate : Option ExpectedFate) → n ≢ i → count_by (tells_due i) (option_to_list (missing_by n e fate)) ≡ 0
due_other i n None fate h = refl
due_other i n (Some e) None h = refl
due_other i n (Some e) (Some expected.Matched) h = refl
due_other i n (Some e) (Some expected.Missing) h = one_not n i h
due_other i n (Some e) (Some expected.Ignored) h = refl
due_other i n (Some e) (Some expected.Open) h = refl

undue : (j : JudgementFields) (i k : ℕ) (s : Option Passage) (fate : Option ObservedFate) → count_by (tells_due i) (option_to_list (observed_by j k s fate)) ≡ 0
undue j i k None fate = refl
undue j i k (Some s) None = refl
undue j i k (Some s) (Some observed.Same) = refl
undue j i k (Some s) (Some observed.Late) = refl
undue j i k (Some s) (Some observed.Altered) = refl
undue j i k (Some s) (Some observed.Extra) = refl
undue j i k (Some s) (Some observed.Ignored) = refl
undue j i k (Some s) (Some observed.Open) = refl

-- ---- all

module _ (j : JudgementFields) (told : List Deviation) (same : IsPermutation (deviations j) told) where
  moved : (p : Deviation → Bool) → count_by p told ≡ count_by p (deviations j)
  moved p = sum_by-IsPermutation (λ (d : Deviation). cond (p d) 1 0) (deviations j) told same

  parts : (p : Deviation → Bool) → count_by p (deviations j)
      ≡ count_by p (flat_map (observed_told j) (range_with_len 0 (length j.observed))) + count_by p (flat_map (missing_told j) (range_with_len 0 (length j.played.expected)))
  unfolding deviations
  parts p = sum_by-append (λ (d : Deviation). cond (p d) 1 0) (flat_map (observed_told j) (range_with_len 0 (length j.observed)))
      (flat_map (missing_told j) (range_with_len 0 (length j.played.expected)))

  seen_by : (k : ℕ) → k < length j.observed → count_by (tells_seen k) (observed_told j k) ≡ one_if (deviates (slice_get j.observed_fates k))
  unfolding observed_at
  seen_by k h = seen_one j k (slice_get j.observed k) (slice_get j.observed_fates k) (some_there j.observed k h)

  seen_by_other : (k n : ℕ) → n ≢ k → count_by (tells_seen k) (observed_told j n) ≡ 0
  unfolding observed_at
  seen_by_other k n h = seen_other j k n (slice_get j.observed n) (slice_get j.observed_fates n) h

  unseen_by : (k i : ℕ) → count_by (tells_seen k) (missing_told j i) ≡ 0
  unfolding missing_at
  unseen_by k i = unseen k i (slice_get j.played.expected i) (slice_get j.expected_fates i)

  due_by : (i : ℕ) → i < length j.played.expected → count_by (tells_due i) (missing_told j i) ≡ one_if (lacks (slice_get j.expected_fates i))
  unfolding missing_at
  due_by i h = due_one i (slice_get j.played.expected i) (slice_get j.expected_fates i) (some_there j.played.expected i h)

  due_by_other : (i n : ℕ) → n ≢ i → count_by (tells_due i) (missing_told j n) ≡ 0
  unfolding missing_at
  due_by_other i n h = due_other i n (slice_get j.played.expected n) (slice_get j.expected_fates n) h

  undue_by : (i k : ℕ) → count_by (tells_due i) (observed_told j k) ≡ 0
  unfolding observed_at
  undue_by i k = undue j i k (slice_get j.observed k) (slice_get j.observed_fates k)

  seen_once : (k : ℕ) → k < length j.observed → count_by (tells_seen k) told ≡ one_if (deviates (slice_get j.observed_fates k))
  seen_once k h =
      let p : Deviation → Bool = tells_seen k in
      let those : count_by p (flat_map (observed_told j) (range_with_len 0 (length j.observed))) ≡ count_by p (observed_told j k)
      = one_of p (observed_told j) k (seen_by_other k) (length j.observed) h in
      let rest : count_by p (flat_map (missing_told j) (range_with_len 0 (length j.played.expected))) ≡ 0
      = none_of p (missing_told j) (unseen_by k) (range_with_len 0 (length j.played.expected)) in
      omega (arith, moved p, parts p, those, rest, seen_by k h)

  due_once : (i : ℕ) → i < length j.played.expected → count_by (tells_due i) told ≡ one_if (lacks (slice_get j.expected_fates i))
  due_once i h =
      let p : Deviation → Bool = tells_due i in
      let those : count_by p (flat_map (missing_told j) (range_with_len 0 (length j.played.expected))) ≡ count_by p (missing_told j i)
      = one_of p (missing_told j) i (due_by_other i) (length j.played.expected) h in
      let rest : count_by p (flat_map (observed_told j) (range_with_len 0 (length j.observed))) ≡ 0
      = none_of p (observed_told j) (undue_by i) (range_with_len 0 (length j.observed)) in
      omega (arith, moved p, parts p, those, rest, due_by i h)

  pub told_once : IsToldOnce j told
  told_once = record { seen = seen_once; due = due_once }

-- what two sorts made of all
pub told_in_order : (j : JudgementFields) (all by_packet told : List Deviation) → all ≡ deviations j
    → IsPermutation all by_packet → IsSortedByKey (λ (d : Deviation). d.packet) nat_cmp by_packet → IsStableByKey (λ (d : Deviation). d.packet) nat_cmp all by_packet
    → IsPermutation by_packet told → IsSortedByKey (λ (d : Deviation). d.at) nat_cmp told → IsStableByKey (λ (d : Deviation). d.at) nat_cmp by_packet told
    → IsInOrder (deviations j) told
told_in_order j all by_packet told is first packets first_stable second moments stable =
    let P : List Deviation → Type 0 = λ (ds : List Deviation). IsInOrder ds told in
    subst P is (in_order all by_packet told first packets first_stable second moments stable)
