-- Whether copies are late, set one after the other.
use Rattle.std.proofs.Common.{◌≡◌, ℕ, zero, suc, ◌+◌, ◌<◌, ◌≤◌, Bool, List, [], ◌∷◌, get_or, length, ◌⊎◌, inl, inr, refl, sym, ap, ◌∙◌, arith, Some}
use Rattle.std.specs.Prelude.{slice_get}
use Rattle.std.proofs.lemmas.Bool.{cases_lt}
use Rattle.std.proofs.lemmas.Option.{get_or_from_slice_get, same_Some}
use Rattle.hsr_health.specs.Counted.{changed, with_late}
use Rattle.hsr_health.specs.Marks.{Marked}

-- ---- one of several, changed

changed_here : {X : Type 0} (f : X → X) (xs : List X) (i : ℕ) (x : X) → slice_get xs i ≡ Some x → slice_get (changed f i xs) i ≡ Some (f x)
changed_here f [] i x here = absurd cc
changed_here f (y ∷ xs) zero x here = ap (λ z. Some (f z)) (same_Some y x here)
changed_here f (y ∷ xs) (suc i) x here = changed_here f xs i x here

changed_else : {X : Type 0} (f : X → X) (xs : List X) (i k : ℕ) → (k ≡ i → ⊥) → slice_get (changed f i xs) k ≡ slice_get xs k
changed_else f [] i k other = refl
changed_else f (y ∷ xs) zero zero other = absurd (other refl)
changed_else f (y ∷ xs) zero (suc k) other = refl
changed_else f (y ∷ xs) (suc i) zero other = refl
changed_else f (y ∷ xs) (suc i) (suc k) other = changed_else f xs i k (λ e. other (ap suc e))

-- ---- one copy more

-- of the marks before a place it is set, and the others are as they were
pub record AreLatedTo (marks : List Marked) (lates : List Bool) (i : ℕ) (all : List Marked) : Type 0 where
  pub long : length all ≡ length marks
  pub set : (k : ℕ) (m : Marked) (late : Bool) → k < i → slice_get marks k ≡ Some m → slice_get lates k ≡ Some late → slice_get all k ≡ Some (with_late late m)
  pub rest : (k : ℕ) → i ≤ k → slice_get all k ≡ slice_get marks k

pub lates_more : (marks : List Marked) (lates : List Bool) (i : ℕ) (own : Bool) (old new : List Marked) → length new ≡ length old → new ≡ changed (with_late (get_or lates i own)) i old
    → AreLatedTo marks lates i old → AreLatedTo marks lates (i + 1) new
lates_more marks lates i own old new long is are = record {
  long = long ∙ are.long;
  set = λ k m late below marks_k lates_k. by_case k m late below marks_k lates_k (cases_lt k i);
  rest = λ k past. ap (λ l. slice_get l k) is ∙ changed_else (with_late (get_or lates i own)) old i k (λ e. omega (arith, past, e)) ∙ are.rest k (omega (arith, past));
}
  where
    by_case : (k : ℕ) (m : Marked) (late : Bool) → k < i + 1 → slice_get marks k ≡ Some m → slice_get lates k ≡ Some late → (k < i) ⊎ (i ≤ k) → slice_get new k ≡ Some (with_late late m)
    by_case k m late below marks_k lates_k (inl before) =
        ap (λ l. slice_get l k) is ∙ changed_else (with_late (get_or lates i own)) old i k (λ e. omega (arith, before, e)) ∙ are.set k m late before marks_k lates_k
    by_case k m late below marks_k lates_k (inr past) =
        let here : k ≡ i = omega (arith, below, past) in
        ap (slice_get new) here ∙ ap (λ l. slice_get l i) is
        ∙ changed_here (with_late (get_or lates i own)) old i m (are.rest i (omega arith) ∙ ap (slice_get marks) (sym here) ∙ marks_k)
        ∙ ap (λ b. Some (with_late b m)) (get_or_from_slice_get lates i late own (ap (slice_get lates) (sym here) ∙ lates_k))
