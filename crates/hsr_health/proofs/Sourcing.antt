-- What is counted of each source, one copy after the other.
use Rattle.std.proofs.Common.{◌≡◌, ℕ, zero, suc, ◌+◌, ◌<◌, ◌≤◌, ◌^◌, ◌&&◌, ◌||◌, not, Bool, true, false, cond, List, [], ◌∷◌, get_or, length, set, ◌⊎◌, inl, inr, refl, sym, ap, ◌∙◌, arith, Option, Some, None}
use Rattle.std.specs.Prelude.{nat_eq, slice_get, is_some}
use Rattle.std.proofs.lemmas.Bool.{cond-false, cond-true, false_from_ne_true, ne_eqb}
use Rattle.std.proofs.lemmas.Option.{get_or_from_slice_get, same_Some}
use Rattle.std.proofs.lemmas.Slice.Eq.{bytes_eq-Decides}
use Rattle.hsr_frame_groups.specs.Frames.{CaughtFields, past_of}
use Rattle.hsr_sightings.specs.Copies.{count_copies, first_such}
use Rattle.hsr_sightings.specs.Frames.{begins}
use Rattle.hsr_sightings.specs.Read.{TellsEach}
use Rattle.hsr_sightings.specs.Ring.{Ring}
use Rattle.hsr_health.specs.Counted.{AreCounted, AreSources, changed, count_of, counted, counts_with, first_number, is_of, last_number, mark_of, more_if, no_counts, number_or}
use Rattle.hsr_health.specs.declared.counts.Counts.{Counts}
use Rattle.hsr_health.specs.Marks.{Marked}
use Rattle.hsr_health.proofs.Pasts.{past_more}

-- ---- one of several, changed

pub changed_put : {X : Type 0} (f : X → X) (xs : List X) (i : ℕ) (x : X) → i < length xs → x ≡ get_or xs i x → set xs i (f x) ≡ changed f i xs
changed_put f [] i x below is = absurd (omega (arith, below))
changed_put f (y ∷ xs) zero x below is = ap (λ z. f z ∷ xs) is
changed_put f (y ∷ xs) (suc i) x below is = ap (λ l. y ∷ l) (changed_put f xs i x (omega (arith, below)) is)

pub changed_past : {X : Type 0} (f : X → X) (xs : List X) (i : ℕ) → length xs ≤ i → xs ≡ changed f i xs
changed_past f [] i past = refl
changed_past f (y ∷ xs) zero past = absurd (omega (arith, past))
changed_past f (y ∷ xs) (suc i) past = ap (λ l. y ∷ l) (changed_past f xs i (omega (arith, past)))

pub changed_at : {X : Type 0} (f : X → X) (xs : List X) (i k : ℕ) (y : X) → slice_get (changed f i xs) k ≡ Some y
    → ((k ≡ i) × ((x : X) × (slice_get xs k ≡ Some x) × (y ≡ f x))) ⊎ ((i ≡ k → ⊥) × (slice_get xs k ≡ Some y))
changed_at f [] i k y here = absurd cc
changed_at f (x ∷ xs) zero zero y here = inl (refl, (x, refl, same_Some y (f x) (sym here)))
changed_at f (x ∷ xs) zero (suc k) y here = inr ((λ e. omega (arith, e)), here)
changed_at f (x ∷ xs) (suc i) zero y here = inr ((λ e. omega (arith, e)), here)
changed_at {X} f (x ∷ xs) (suc i) (suc k) y here = by_case (changed_at f xs i k y here)
  where
    by_case : ((k ≡ i) × ((z : X) × (slice_get xs k ≡ Some z) × (y ≡ f z))) ⊎ ((i ≡ k → ⊥) × (slice_get xs k ≡ Some y))
        → ((suc k ≡ suc i) × ((z : X) × (slice_get xs k ≡ Some z) × (y ≡ f z))) ⊎ ((suc i ≡ suc k → ⊥) × (slice_get xs k ≡ Some y))
    by_case (inl own) = inl (ap suc own.0, own.1)
    by_case (inr other) = inr ((λ e. other.0 (omega (arith, e))), other.1)

-- ---- one copy more

pub is_own : (c : CaughtFields) → is_of c.copy.src c ≡ true
is_own c = (bytes_eq-Decides c.copy.src c.copy.src).1 refl

pub is_other : (mac : List ℕ) (c : CaughtFields) → (c.copy.src ≡ mac → ⊥) → is_of mac c ≡ false
is_other mac c other = false_from_ne_true (is_of mac c) (λ same. other ((bytes_eq-Decides c.copy.src mac).0 same))

pub counts_step : (is_by_lane : ℕ → Bool) (ring : Ring) (copies : List CaughtFields) (macs : List (List ℕ)) (of_copy : List ℕ) (i source : ℕ) (c : CaughtFields) (marks : Marked) (old new : List Counts)
    → slice_get copies i ≡ Some c → AreSources copies macs of_copy → slice_get of_copy i ≡ Some source → marks ≡ mark_of is_by_lane ring (past_of copies i) c
    → new ≡ changed (λ own. counts_with own marks c.copy.seq) source old → AreCounted is_by_lane ring copies macs i old → AreCounted is_by_lane ring copies macs (i + 1) new
counts_step is_by_lane ring copies macs of_copy i source c marks old new here sources of_c marks_are new_is are k mac own mac_k own_k =
    by_case (changed_at (λ x. counts_with x marks c.copy.seq) old source k own (ap (λ l. slice_get l k) (sym new_is) ∙ own_k))
    ∙ ap (counted is_by_lane ring no_counts mac) (sym (past_more copies i c here))
  where
    past : List CaughtFields
    past = past_of copies i

    its : slice_get macs source ≡ Some c.copy.src
    its = sources.each i source c here of_c

    by_case : ((k ≡ source) × ((x : Counts) × (slice_get old k ≡ Some x) × (own ≡ counts_with x marks c.copy.seq))) ⊎ ((source ≡ k → ⊥) × (slice_get old k ≡ Some own))
        → own ≡ counted is_by_lane ring no_counts mac (c ∷ past)
    by_case (inl found) =
        let same : mac ≡ c.copy.src = same_Some mac c.copy.src (sym mac_k ∙ ap (slice_get macs) found.0 ∙ its) in
        let mine : is_of mac c ≡ true = ap (λ m. is_of m c) same ∙ is_own c in
        found.1.2 ∙ ap (λ x. counts_with x marks c.copy.seq) (are k mac found.1.0 mac_k found.1.1)
        ∙ ap (λ m. counts_with (counted is_by_lane ring no_counts mac past) m c.copy.seq) marks_are
        ∙ sym (cond-true (is_of mac c) (counts_with (counted is_by_lane ring no_counts mac past) (mark_of is_by_lane ring past c) c.copy.seq) (counted is_by_lane ring no_counts mac past) mine)
    by_case (inr other) =
        let apart : is_of mac c ≡ false = is_other mac c (λ e. other.0 (sources.once source k mac (its ∙ ap Some e) mac_k)) in
        are k mac own mac_k other.1
        ∙ sym (cond-false (is_of mac c) (counts_with (counted is_by_lane ring no_counts mac past) (mark_of is_by_lane ring past c) c.copy.seq) (counted is_by_lane ring no_counts mac past) apart)

-- what was told of a copy, where it was read
pub told_is : {X : Type 0} (tell : List CaughtFields → CaughtFields → X) (copies : List CaughtFields) (told : List X) (i : ℕ) (c : CaughtFields) (d : X) → TellsEach tell copies told → slice_get copies i ≡ Some c
    → i < length told → get_or told i d ≡ tell (past_of copies i) c
told_is tell copies told i c d tells here below = get_or_from_slice_get told i (tell (past_of copies i) c) d (tells.each i c here)

-- ---- what is counted, by definition

pub count_small : (is_such : List CaughtFields → CaughtFields → Bool) (past : List CaughtFields) → count_copies is_such past ≤ length past
count_small is_such [] = omega arith
count_small is_such (c ∷ past) = by_case (count_small is_such past) (is_such past c)
  where
    by_case : count_copies is_such past ≤ length past → (b : Bool) → cond b (count_copies is_such past + 1) (count_copies is_such past) ≤ suc (length past)
    by_case rest true = omega (arith, rest)
    by_case rest false = omega (arith, rest)

-- a count of marks is that of such copies
pub counted_field : (is_by_lane : ℕ → Bool) (ring : Ring) (source : List ℕ) (field : Counts → ℕ) (mark : Marked → Bool) (is_such : List CaughtFields → CaughtFields → Bool)
    → ((own : Counts) (marks : Marked) (n : ℕ) → field (counts_with own marks n) ≡ more_if (field own) (mark marks))
    → ((past : List CaughtFields) (c : CaughtFields) → mark (mark_of is_by_lane ring past c) ≡ is_such past c) → field no_counts ≡ 0
    → (past : List CaughtFields) → length past < 2 ^ 63 → field (counted is_by_lane ring no_counts source past) ≡ count_of source is_such past
counted_field is_by_lane ring source field mark is_such with_is mark_is none [] few = none
counted_field is_by_lane ring source field mark is_such with_is mark_is none (c ∷ past) few =
    by_source (is_of source c) (counted_field is_by_lane ring source field mark is_such with_is mark_is none past (omega (arith, few)))
  where
    before : Counts
    before = counted is_by_lane ring no_counts source past

    small : count_of source is_such past ≤ length past
    small = count_small (λ p x. is_of source x && is_such p x) past

    by_mark : (b : Bool) → field before ≡ count_of source is_such past → more_if (field before) b ≡ cond b (count_of source is_such past + 1) (count_of source is_such past)
    by_mark true rest = omega (arith, rest, small, few)
    by_mark false rest = rest

    by_source : (b : Bool) → field before ≡ count_of source is_such past → field (cond b (counts_with before (mark_of is_by_lane ring past c) c.copy.seq) before)
        ≡ cond (b && is_such past c) (count_of source is_such past + 1) (count_of source is_such past)
    by_source true rest = with_is before (mark_of is_by_lane ring past c) c.copy.seq ∙ ap (more_if (field before)) (mark_is past c) ∙ by_mark (is_such past c) rest
    by_source false rest = rest

-- the number of the last frame
pub counted_last : (is_by_lane : ℕ → Bool) (ring : Ring) (source : List ℕ) (past : List CaughtFields) → (counted is_by_lane ring no_counts source past).last ≡ last_number source past
counted_last is_by_lane ring source [] = refl
counted_last is_by_lane ring source (c ∷ past) = by_source (is_of source c) (counted_last is_by_lane ring source past)
  where
    before : Counts
    before = counted is_by_lane ring no_counts source past

    by_source : (b : Bool) → before.last ≡ last_number source past
        → (cond b (counts_with before (mark_of is_by_lane ring past c) c.copy.seq) before).last ≡ cond (b && begins past c) c.copy.seq (last_number source past)
    by_source true rest = ap (cond (begins past c) c.copy.seq) rest
    by_source false rest = rest

-- the first such of those before, or else the copy itself
pub first_later : (is_such : List CaughtFields → CaughtFields → Bool) (c : CaughtFields) (past : List CaughtFields) (x : CaughtFields) → first_such is_such past ≡ Some x
    → first_such is_such (c ∷ past) ≡ Some x
first_later is_such c past x is = rw is refl

pub first_now : (is_such : List CaughtFields → CaughtFields → Bool) (c : CaughtFields) (past : List CaughtFields) → first_such is_such past ≡ None
    → first_such is_such (c ∷ past) ≡ cond (is_such past c) (Some c) None
first_now is_such c past is = rw is refl

found_or : (is_such : List CaughtFields → CaughtFields → Bool) (c : CaughtFields) (past : List CaughtFields)
    → is_some (first_such is_such (c ∷ past)) ≡ (is_some (first_such is_such past) || is_such past c)
found_or is_such c past = by_first (first_such is_such past) refl
  where
    by_such : (b : Bool) → is_some (cond b (Some c) None) ≡ b
    by_such true = refl
    by_such false = refl

    by_first : (o : Option CaughtFields) → first_such is_such past ≡ o → is_some (first_such is_such (c ∷ past)) ≡ (is_some (first_such is_such past) || is_such past c)
    by_first None is = ap is_some (first_now is_such c past is) ∙ by_such (is_such past c) ∙ sym (ap (λ o. is_some o || is_such past c) is)
    by_first (Some x) is = ap is_some (first_later is_such c past x is) ∙ sym (ap (λ o. is_some o || is_such past c) is)

-- there is a first one exactly where there are any
some_such : (is_such : List CaughtFields → CaughtFields → Bool) (past : List CaughtFields) → nat_eq (count_copies is_such past) 0 ≡ not (is_some (first_such is_such past))
some_such is_such [] = refl
some_such is_such (c ∷ past) = by_count (is_some (first_such is_such past)) (some_such is_such past) (is_such past c) ∙ sym (ap not (found_or is_such c past))
  where
    by_count : (found : Bool) → nat_eq (count_copies is_such past) 0 ≡ not found → (b : Bool)
        → nat_eq (cond b (count_copies is_such past + 1) (count_copies is_such past)) 0 ≡ not (found || b)
    by_count true rest true = ne_eqb (count_copies is_such past + 1) 0 (λ e. omega (arith, e))
    by_count false rest true = ne_eqb (count_copies is_such past + 1) 0 (λ e. omega (arith, e))
    by_count true rest false = rest
    by_count false rest false = rest

-- the number of the first frame
pub counted_first : (is_by_lane : ℕ → Bool) (ring : Ring) (source : List ℕ) (past : List CaughtFields) → length past < 2 ^ 63 → (counted is_by_lane ring no_counts source past).first ≡ first_number source past
counted_first is_by_lane ring source [] few = refl
counted_first is_by_lane ring source (c ∷ past) few =
    by_first (first_such begins_own past) refl (is_of source c) refl (counted_first is_by_lane ring source past (omega (arith, few)))
  where
    begins_own : List CaughtFields → CaughtFields → Bool
    begins_own p x = is_of source x && begins p x

    before : Counts
    before = counted is_by_lane ring no_counts source past

    none_yet : nat_eq before.frames 0 ≡ not (is_some (first_such begins_own past))
    none_yet = ap (λ n. nat_eq n 0) (counted_field is_by_lane ring source (λ x. x.frames) (λ m. m.begins) begins (λ own marks n. refl) (λ p x. refl) refl past (omega (arith, few))) ∙ some_such begins_own past

    with_one : Counts
    with_one = counts_with before (mark_of is_by_lane ring past c) c.copy.seq

    kept : (b found : Bool) → found ≡ false → cond (b && found) c.copy.seq before.first ≡ before.first
    kept true true is = absurd cc
    kept true false is = refl
    kept false found is = refl

    new : (b found : Bool) → found ≡ true → before.first ≡ 0 → cond (b && found) c.copy.seq before.first ≡ number_or (cond b (Some c) None)
    new true true is none = refl
    new true false is none = absurd cc
    new false found is none = none

    by_first : (o : Option CaughtFields) → first_such begins_own past ≡ o → (mine : Bool) → is_of source c ≡ mine → before.first ≡ number_or (first_such begins_own past)
        → (cond (is_of source c) with_one before).first ≡ number_or (first_such begins_own (c ∷ past))
    by_first (Some x) is true its rest =
        ap (λ b. (cond b with_one before).first) its
        ∙ kept (begins past c) (nat_eq before.frames 0) (none_yet ∙ ap (λ o. not (is_some o)) is) ∙ rest ∙ ap number_or (is ∙ sym (first_later begins_own c past x is))
    by_first (Some x) is false its rest = ap (λ b. (cond b with_one before).first) its ∙ rest ∙ ap number_or (is ∙ sym (first_later begins_own c past x is))
    by_first None is true its rest =
        ap (λ b. (cond b with_one before).first) its
        ∙ new (begins past c) (nat_eq before.frames 0) (none_yet ∙ ap (λ o. not (is_some o)) is) (rest ∙ ap number_or is)
        ∙ ap (λ b. number_or (cond (b && begins past c) (Some c) None)) (sym its) ∙ ap number_or (sym (first_now begins_own c past is))
    by_first None is false its rest =
        ap (λ b. (cond b with_one before).first) its ∙ rest ∙ ap number_or is
        ∙ ap (λ b. number_or (cond (b && begins past c) (Some c) None)) (sym its) ∙ ap number_or (sym (first_now begins_own c past is))
