-- A list with one more at its end.
use Rattle.std.proofs.Common.{◌≡◌, ℕ, zero, suc, ◌+◌, ◌<◌, List, [], ◌∷◌, ◌++◌, length, slice_index_or, refl, sym, ap, ◌∙◌, subst, arith, ⊎_elim}
use Rattle.std.proofs.lemmas.Bool.{cases_lt}

pub at_last : {X : Type 0} (xs : List X) (x d : X) → slice_index_or (xs ++ x ∷ []) (length xs) d ≡ x
at_last [] x d = refl
at_last (y ∷ xs) x d = at_last xs x d

pub at_before : {X : Type 0} (xs ys : List X) (k : ℕ) (d : X) → k < length xs → slice_index_or (xs ++ ys) k d ≡ slice_index_or xs k d
at_before [] ys k d low = absurd (omega (arith, low))
at_before (x ∷ xs) ys zero d low = refl
at_before (x ∷ xs) ys (suc k) d low = at_before xs ys k d (omega (arith, low))

-- what holds of each of a list, and of one more, holds of each of both
pub each_more : {X : Type 0} (P : ℕ → X → Type 0) (xs all : List X) (x : X) (n : ℕ) → all ≡ xs ++ x ∷ [] → length xs ≡ n → ((k : ℕ) (d : X) → k < n → P k (slice_index_or xs k d)) → P n x →
    (k : ℕ) (d : X) → k < n + 1 → P k (slice_index_or all k d)
each_more {X = X} P xs all x n is many each one k d low =
    ⊎_elim
    (λ lower. subst (λ (y : X). P k y) (sym (ap (λ (zs : List X). slice_index_or zs k d) is ∙ at_before xs (x ∷ []) k d (omega (arith, lower, many)))) (each k d lower))
    (λ high.
    let same : n ≡ k = omega (arith, low, high) in
    let last : length xs ≡ k = omega (arith, same, many) in
    let there : slice_index_or all k d ≡ x = ap (λ (zs : List X). slice_index_or zs k d) is ∙ (ap (λ j. slice_index_or (xs ++ x ∷ []) j d) (sym last) ∙ at_last xs x d) in
    subst (λ (y : X). P k y) (sym there) (subst (λ j. P j x) same one))
    (cases_lt k n)

pub length_more : {X : Type 0} (xs all : List X) (x : X) (n : ℕ) → all ≡ xs ++ x ∷ [] → length xs ≡ n → length all ≡ n + 1
length_more {X = X} xs all x n is many = ap length is ∙ one xs n many
  where
    one : (ys : List X) (m : ℕ) → length ys ≡ m → length (ys ++ x ∷ []) ≡ m + 1
    one [] m long = omega (arith, long)
    one (y ∷ ys) m long = let rest = one ys (length ys) refl in omega (arith, rest, long)
