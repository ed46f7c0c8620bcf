-- A list that stands in another from the k-th place on.
use Rattle.std.proofs.Common.{◌≡◌, ℕ, ◌+◌, suc, List, ◌∷◌, get_or, ap, ◌∙◌, arith}

pub first_there : {X : Type 0} (all : List X) (d : X) (k : ℕ) (x : X) (xs : List X) → ((j : ℕ) → get_or all (k + j) d ≡ get_or (x ∷ xs) j d) → get_or all k d ≡ x
first_there all d k x xs same = let e : k ≡ k + 0 = omega arith in ap (λ i. get_or all i d) e ∙ same 0

pub others_there : {X : Type 0} (all : List X) (d : X) (k : ℕ) (x : X) (xs : List X) → ((j : ℕ) → get_or all (k + j) d ≡ get_or (x ∷ xs) j d) → (j : ℕ) → get_or all ((k + 1) + j) d ≡ get_or xs j d
others_there all d k x xs same j = let e : (k + 1) + j ≡ k + suc j = omega arith in ap (λ i. get_or all i d) e ∙ same (suc j)

pub all_there : {X : Type 0} (xs : List X) (d : X) (j : ℕ) → get_or xs (0 + j) d ≡ get_or xs j d
all_there xs d j = let e : 0 + j ≡ j = omega arith in ap (λ i. get_or xs i d) e
