-- Lists that tell of each copy, and how many there are before one, one copy after the other.
use Rattle.std.proofs.Common.{◌≡◌, ℕ, zero, suc, ◌+◌, ◌<◌, ◌≤◌, List, [], ◌∷◌, ◌++◌, get_or, length, ◌⊎◌, inl, inr, refl, sym, ap, subst, ◌∙◌, arith, Some}
use Rattle.std.specs.Prelude.{slice_get}
use Rattle.std.proofs.lemmas.Bool.{cases_lt}
use Rattle.std.proofs.lemmas.List.{length_push}
use Rattle.std.proofs.lemmas.Option.{get_or_from_slice_get, same_Some, slice_get_within}
use Rattle.hsr_frame_groups.specs.Frames.{CaughtFields}

-- ---- lists that grow by one

pub slice_get_left : {X : Type 0} (xs ys : List X) (k : ℕ) → k < length xs → slice_get (xs ++ ys) k ≡ slice_get xs k
slice_get_left [] ys k below = absurd (omega (arith, below))
slice_get_left (x ∷ xs) ys zero below = refl
slice_get_left (x ∷ xs) ys (suc k) below = slice_get_left xs ys k (omega (arith, below))

pub slice_get_end : {X : Type 0} (xs : List X) (y : X) (k : ℕ) → length xs ≡ k → slice_get (xs ++ y ∷ []) k ≡ Some y
slice_get_end [] y k is = subst (λ n. slice_get (y ∷ []) n ≡ Some y) is refl
slice_get_end (x ∷ xs) y zero is = absurd (omega (arith, is))
slice_get_end (x ∷ xs) y (suc k) is = slice_get_end xs y k (omega (arith, is))

pub get_or_end : {X : Type 0} (xs : List X) (y : X) (i : ℕ) (d : X) → length xs ≡ i → get_or (xs ++ y ∷ []) i d ≡ y
get_or_end xs y i d is = get_or_from_slice_get (xs ++ y ∷ []) i y d (slice_get_end xs y i is)

-- what is told of each copy so far, with one more
pub told_more : {X : Type 0} (tell : ℕ → CaughtFields → X) (copies : List CaughtFields) (told new : List X) (i : ℕ) (own : X) → length told ≡ i → new ≡ told ++ own ∷ []
    → ((d : CaughtFields) → slice_get copies i ≡ Some d → own ≡ tell i d) → ((k : ℕ) (c : CaughtFields) → k < i → slice_get copies k ≡ Some c → slice_get told k ≡ Some (tell k c))
    → (k : ℕ) (c : CaughtFields) → k < i + 1 → slice_get copies k ≡ Some c → slice_get new k ≡ Some (tell k c)
told_more tell copies told new i own long is own_is each k c below at_k = by_case (cases_lt k i)
  where
    by_case : (k < i) ⊎ (i ≤ k) → slice_get new k ≡ Some (tell k c)
    by_case (inl before) = ap (λ l. slice_get l k) is ∙ slice_get_left told (own ∷ []) k (omega (arith, before, long)) ∙ each k c before at_k
    by_case (inr past) =
        let place : k ≡ i = omega (arith, past, below) in
        let at_i : slice_get copies i ≡ Some c = ap (slice_get copies) (sym place) ∙ at_k in
        ap (slice_get new) place ∙ ap (λ l. slice_get l i) is ∙ slice_get_end told own i long ∙ ap Some (own_is c at_i ∙ ap (λ n. tell n c) (sym place))

-- the copy that was read is the one at the place
pub read_is : {X : Type 0} (tell : CaughtFields → X) (copies : List CaughtFields) (i : ℕ) (x : CaughtFields) (own : X) → slice_get copies i ≡ Some x → own ≡ tell x
    → (d : CaughtFields) → slice_get copies i ≡ Some d → own ≡ tell d
read_is tell copies i x own here is d there = is ∙ ap tell (same_Some x d (sym here ∙ there))

pub long_more : {X : Type 0} (told new : List X) (i : ℕ) (own : X) → length told ≡ i → new ≡ told ++ own ∷ [] → length new ≡ i + 1
long_more told new i own long is = ap length is ∙ length_push told own ∙ ap (λ n. n + 1) long

-- ---- counts

-- no count is greater than its place
pub small_more : (counts new : List ℕ) (i own : ℕ) → length counts ≡ i → new ≡ counts ++ own ∷ [] → own ≤ i → ((k n : ℕ) → slice_get counts k ≡ Some n → n ≤ k) → (k n : ℕ) → slice_get new k ≡ Some n → n ≤ k
small_more counts new i own long is le small k n at_k = by_case (cases_lt k i)
  where
    pushed : slice_get (counts ++ own ∷ []) k ≡ Some n
    pushed = ap (λ l. slice_get l k) (sym is) ∙ at_k

    by_case : (k < i) ⊎ (i ≤ k) → n ≤ k
    by_case (inl before) = small k n (sym (slice_get_left counts (own ∷ []) k (omega (arith, before, long))) ∙ pushed)
    by_case (inr past) =
        let below : k < length (counts ++ own ∷ []) = slice_get_within (counts ++ own ∷ []) k n pushed in
        let more : length (counts ++ own ∷ []) ≡ length counts + 1 = length_push counts own in
        let place : i ≡ k = omega (arith, past, below, more, long) in
        let same : own ≡ n = same_Some _ _ (sym (slice_get_end counts own i long) ∙ ap (slice_get (counts ++ own ∷ [])) place ∙ pushed) in
        omega (arith, place, same, le)
