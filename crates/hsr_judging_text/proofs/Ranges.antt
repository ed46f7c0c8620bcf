-- How many of what numbers give pass a test that one number's alone pass.
use Rattle.std.proofs.Common.{◌≡◌, ◌≢◌, ℕ, zero, suc, ◌+◌, ◌<◌, ◌≤◌, inl, inr, ◌++◌, Bool, List, [], ◌∷◌, count_by, ap, refl, arith, cond}
use Rattle.std.proofs.lemmas.Bool.{cases_lt}
use Rattle.std.proofs.lemmas.List.Sums.{sum_by-append}
use Rattle.std.specs.List.{flat_map, range_with_len}

module _ {Y : Type 0} (p : Y → Bool) where
  counted-append : (xs ys : List Y) → count_by p (xs ++ ys) ≡ count_by p xs + count_by p ys
  counted-append xs ys = sum_by-append (λ (y : Y). cond (p y) 1 0) xs ys

  pub none_of : (f : ℕ → List Y) → ((n : ℕ) → count_by p (f n) ≡ 0) → (ns : List ℕ) → count_by p (flat_map f ns) ≡ 0
  none_of f none [] = refl
  none_of f none (n ∷ ns) =
      let rest : count_by p (flat_map f ns) ≡ 0 = none_of f none ns in
      omega (arith, counted-append (f n) (flat_map f ns), none n, rest)

  module _ (f : ℕ → List Y) (k : ℕ) (others : (n : ℕ) → n ≢ k → count_by p (f n) ≡ 0) where
    behind : (a n : ℕ) → k < a → count_by p (flat_map f (range_with_len a n)) ≡ 0
    behind a zero h = refl
    behind a (suc n) h =
        let here : count_by p (f a) ≡ 0 = others a (omega arith) in
        let rest : count_by p (flat_map f (range_with_len (a + 1) n)) ≡ 0 = behind (a + 1) n (omega arith) in
        omega (arith, counted-append (f a) (flat_map f (range_with_len (a + 1) n)), here, rest)

    among : (a n : ℕ) → a ≤ k → k < a + n → count_by p (flat_map f (range_with_len a n)) ≡ count_by p (f k)
    among a zero le below = absurd (omega arith)
    among a (suc n) le below =
        let joined : count_by p (f a ++ flat_map f (range_with_len (a + 1) n)) ≡ count_by p (f a) + count_by p (flat_map f (range_with_len (a + 1) n))
        = counted-append (f a) (flat_map f (range_with_len (a + 1) n)) in
        elim (cases_lt a k) [
          | inl less ↦ (let here : count_by p (f a) ≡ 0 = others a (omega arith) in
              let rest : count_by p (flat_map f (range_with_len (a + 1) n)) ≡ count_by p (f k) = among (a + 1) n (omega arith) (omega arith) in
              omega (arith, joined, here, rest))
          | inr not_less ↦ (let same : a ≡ k = omega arith in
              let here : count_by p (f a) ≡ count_by p (f k) = ap (λ (m : ℕ). count_by p (f m)) same in
              let rest : count_by p (flat_map f (range_with_len (a + 1) n)) ≡ 0 = behind (a + 1) n (omega arith) in
              omega (arith, joined, here, rest))
        ]

    pub one_of : (n : ℕ) → k < n → count_by p (flat_map f (range_with_len 0 n)) ≡ count_by p (f k)
    one_of n below = among 0 n (omega arith) (omega arith)
