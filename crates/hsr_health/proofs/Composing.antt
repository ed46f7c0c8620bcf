-- What is counted of a source, put together.
use Rattle.std.proofs.Common.{◌≡◌, ℕ, ◌<◌, ◌^◌, Bool, true, false, cond, List, [], ◌∷◌, ◌++◌, get_or, length, reverse, ◌⊎◌, inl, inr, refl, sym, ap, subst, ◌∙◌, arith, Option, Some}
use Rattle.std.specs.Prelude.{filter_map, slice_get}
use Rattle.std.proofs.lemmas.List.{length-reverse, take_all}
use Rattle.std.proofs.lemmas.Option.{slice_get-get_or, slice_get_within}
use Rattle.hsr_frame_groups.specs.Frames.{CaughtFields, past_of}
use Rattle.hsr_sightings.specs.Copies.{is_clash, is_late}
use Rattle.hsr_sightings.specs.Frames.{begins}
use Rattle.hsr_sightings.specs.Read.{AreSightings}
use Rattle.hsr_sightings.specs.Ring.{Ring}
use Rattle.hsr_sightings.specs.Fields.{Sighting}
use Rattle.hsr_health.specs.Counted.{AreCounted, AreFated, AreFates, AreOfSources, AreSkewed, AreSources, HaveNoFates, IsFated, IsSkewed, counted, counts_with, has_wrong_lane, has_wrong_size, is_of, mark_of, no_counts, no_fates, skews_of, told_by, with_skew}
use Rattle.hsr_spread.specs.Spreads.{AreSpreads, IsSpread}
use Rattle.hsr_health.specs.declared.counts.Counts.{Counts}
use Rattle.hsr_health.specs.declared.counts.Fates.{Fates}
use Rattle.hsr_spread.specs.declared.spread.Spread.{Spread}
use Rattle.hsr_health.proofs.Fating.{fates_are}
use Rattle.hsr_health.proofs.Skewing.{skews_are}
use Rattle.hsr_health.proofs.Sourcing.{counted_field, counted_first, counted_last}
use Rattle.hsr_sightings.proofs.Gathering.{slice_get_push}

-- one more with its skew
pub skewed_more : (counts : List Counts) (skews : List (Option Spread)) (all new : List Counts) (k : ℕ) (own before : Counts) (skew : Option Spread) → length all ≡ k → new ≡ all ++ own ∷ []
    → slice_get counts k ≡ Some before → slice_get skews k ≡ Some skew → own ≡ with_skew skew before → AreSkewed counts skews all → AreSkewed counts skews new
skewed_more counts skews all new k own before skew long is counted_k told_k own_is are j x at_j = by_case (slice_get_push all own x j (ap (λ l. slice_get l j) (sym is) ∙ at_j))
  where
    by_case : (slice_get all j ≡ Some x) ⊎ ((j ≡ length all) × (x ≡ own)) → IsSkewed counts skews j x
    by_case (inl old) = are j x old
    by_case (inr here) = record {
      before = before;
      skew = skew;
      counted = ap (slice_get counts) (here.0 ∙ long) ∙ counted_k;
      told = ap (slice_get skews) (here.0 ∙ long) ∙ told_k;
      is = here.1 ∙ own_is;
    }

-- copies count no fates
no_fates_in : (is_by_lane : ℕ → Bool) (ring : Ring) (source : List ℕ) (past : List CaughtFields)
    → ((counted is_by_lane ring no_counts source past).group ≡ no_fates) × ((counted is_by_lane ring no_counts source past).single ≡ no_fates)
no_fates_in is_by_lane ring source [] = (refl, refl)
no_fates_in is_by_lane ring source (c ∷ past) = by_source (is_of source c) (no_fates_in is_by_lane ring source past)
  where
    before : Counts
    before = counted is_by_lane ring no_counts source past

    with_one : Counts
    with_one = counts_with before (mark_of is_by_lane ring past c) c.copy.seq

    by_source : (b : Bool) → (before.group ≡ no_fates) × (before.single ≡ no_fates) → ((cond b with_one before).group ≡ no_fates) × ((cond b with_one before).single ≡ no_fates)
    by_source true none = none
    by_source false none = none

pub still_no_fates : (is_by_lane : ℕ → Bool) (ring : Ring) (copies : List CaughtFields) (macs : List (List ℕ)) (i : ℕ) (counts : List Counts) → AreCounted is_by_lane ring copies macs i counts → HaveNoFates macs counts
still_no_fates is_by_lane ring copies macs i counts are k mac own mac_k own_k =
    let none = no_fates_in is_by_lane ring mac (past_of copies i) in
    (ap (λ (x : Counts). x.group) (are k mac own mac_k own_k) ∙ none.0, ap (λ (x : Counts). x.single) (are k mac own mac_k own_k) ∙ none.1)

-- nothing is counted yet
pub none_counted : (is_by_lane : ℕ → Bool) (ring : Ring) (copies : List CaughtFields) (macs : List (List ℕ)) (counts : List Counts) → ((k : ℕ) (own : Counts) → slice_get counts k ≡ Some own → own ≡ no_counts)
    → AreCounted is_by_lane ring copies macs 0 counts
none_counted is_by_lane ring copies macs counts none k mac own mac_k own_k = none k own own_k

-- ---- the whole

-- what neither fates nor skews change
kept_field : (ring : Ring) (is_by_lane : ℕ → Bool) (copies : List CaughtFields) (macs : List (List ℕ)) (all : List Sighting) (marked fated new : List Counts) (spreads : List (Option Spread))
    → AreCounted is_by_lane ring copies macs (length copies) marked → AreFated ring copies macs marked all fated → length fated ≡ length marked → AreSkewed fated spreads new
    → (k : ℕ) (mac : List ℕ) (own : Counts) → slice_get macs k ≡ Some mac → slice_get new k ≡ Some own → (f : Counts → ℕ) → ((x : Counts) (s : Option Spread) → f (record x { skew = s }) ≡ f x)
    → ((x : Counts) (g s : Fates) → f (record x { group = g; single = s }) ≡ f x) → f own ≡ f (counted is_by_lane ring no_counts mac (reverse copies))
kept_field ring is_by_lane copies macs all marked fated new spreads counted_are fated_are long skewed k mac own mac_k own_k f by_skew by_fates =
    ap f its.is ∙ by_skew its.before its.skew ∙ ap f is.others ∙ by_fates base its.before.group its.before.single ∙ ap f base_is
  where
    its : IsSkewed fated spreads k own
    its = skewed k own own_k

    base : Counts
    base = get_or marked k own

    at_k : slice_get marked k ≡ Some base
    at_k = let inside = slice_get_within fated k its.before its.counted in slice_get-get_or marked k own (omega (arith, inside, long))

    is : IsFated ring copies mac base all its.before
    is = fated_are k mac base its.before mac_k at_k its.counted

    whole : past_of copies (length copies) ≡ reverse copies
    whole = ap reverse (take_all (length copies) copies (omega arith))

    base_is : base ≡ counted is_by_lane ring no_counts mac (reverse copies)
    base_is = counted_are k mac base mac_k at_k ∙ ap (counted is_by_lane ring no_counts mac) whole

pub all_of_sources : (ring : Ring) (is_by_lane : ℕ → Bool) (copies : List CaughtFields) (macs : List (List ℕ)) (of_copy numbers : List ℕ) (all : List Sighting) (marked fated new : List Counts)
    (spreads : List (Option Spread)) → length copies < 2 ^ 63 → AreSources copies macs of_copy → AreSightings ring copies all numbers → AreCounted is_by_lane ring copies macs (length copies) marked
    → AreFated ring copies macs marked all fated → length fated ≡ length marked → AreSpreads (filter_map (told_by of_copy) all) spreads → AreSkewed fated spreads new
    → AreOfSources ring is_by_lane macs (reverse copies) new
all_of_sources ring is_by_lane copies macs of_copy numbers all marked fated new spreads few sources are counted_are fated_are long spreads_are skewed k mac own mac_k own_k = record {
  frames = kept (λ x. x.frames) (λ x s. refl) (λ x g s. refl) ∙ counted_field is_by_lane ring mac (λ x. x.frames) (λ m. m.begins) begins (λ x m n. refl) (λ p c. refl) refl (reverse copies) short;
  first = kept (λ x. x.first) (λ x s. refl) (λ x g s. refl) ∙ counted_first is_by_lane ring mac (reverse copies) short;
  last = kept (λ x. x.last) (λ x s. refl) (λ x g s. refl) ∙ counted_last is_by_lane ring mac (reverse copies);
  clashes = kept (λ x. x.clashes) (λ x s. refl) (λ x g s. refl) ∙ counted_field is_by_lane ring mac (λ x. x.clashes) (λ m. m.is_clash) is_clash (λ x m n. refl) (λ p c. refl) refl (reverse copies) short;
  late = kept (λ x. x.late) (λ x s. refl) (λ x g s. refl) ∙ counted_field is_by_lane ring mac (λ x. x.late) (λ m. m.is_late) (is_late ring) (λ x m n. refl) (λ p c. refl) refl (reverse copies) short;
  size = kept (λ x. x.size) (λ x s. refl) (λ x g s. refl) ∙ counted_field is_by_lane ring mac (λ x. x.size) (λ m. m.is_wrong_size) has_wrong_size (λ x m n. refl) (λ p c. refl) refl (reverse copies) short;
  lane = kept (λ x. x.lane) (λ x s. refl) (λ x g s. refl)
      ∙ counted_field is_by_lane ring mac (λ x. x.lane) (λ m. m.is_wrong_lane) (has_wrong_lane is_by_lane ring) (λ x m n. refl) (λ p c. refl) refl (reverse copies) short;
  group = subst (AreFates ring mac true (reverse copies)) (sym (ap (λ (x : Counts). x.group) its.is)) (fates_are ring copies all numbers mac true its.before.group are is.group);
  single = subst (AreFates ring mac false (reverse copies)) (sym (ap (λ (x : Counts). x.single) its.is)) (fates_are ring copies all numbers mac false its.before.single are is.single);
  skew = subst (IsSpread (skews_of ring mac (reverse copies))) (sym (ap (λ (x : Counts). x.skew) its.is))
      (skews_are ring copies macs of_copy numbers all k mac its.skew sources are mac_k (spreads_are k its.skew its.told));
}
  where
    short : length (reverse copies) < 2 ^ 63
    short = omega (arith, few, length-reverse copies)

    its : IsSkewed fated spreads k own
    its = skewed k own own_k

    base : Counts
    base = get_or marked k own

    at_k : slice_get marked k ≡ Some base
    at_k = let inside = slice_get_within fated k its.before its.counted in slice_get-get_or marked k own (omega (arith, inside, long))

    is : IsFated ring copies mac base all its.before
    is = fated_are k mac base its.before mac_k at_k its.counted

    kept : (f : Counts → ℕ) → ((x : Counts) (s : Option Spread) → f (record x { skew = s }) ≡ f x) → ((x : Counts) (g s : Fates) → f (record x { group = g; single = s }) ≡ f x)
        → f own ≡ f (counted is_by_lane ring no_counts mac (reverse copies))
    kept = kept_field ring is_by_lane copies macs all marked fated new spreads counted_are fated_are long skewed k mac own mac_k own_k
