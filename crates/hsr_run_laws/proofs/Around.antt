-- Steps round a ring of n places, from s on: `around n s i` is the place after i steps.
use Rattle.std.proofs.Common.{◌≡◌, ◌⊎◌, ℕ, ◌+◌, ◌-◌, ◌%◌, ◌<◌, ◌≤◌, Bool, true, false, cond, ap, ◌∙◌, subst, arith, inl, inr, ⊎_elim, zero, suc, ltb, mod-eq_of_lt, lt-ltb, le-ltb}
use Rattle.std.proofs.Math.Nat.{mod_self}
use Rattle.std.proofs.lemmas.Bool.{cases_lt, cond-true, cond-false, cases_Bool}

pub around : ℕ → ℕ → ℕ → ℕ
around n s i = cond (ltb (s + i) n) (s + i) (s + i - n)

pub around_low : (n s i : ℕ) → s + i < n → around n s i ≡ s + i
unfolding around
around_low n s i h = cond-true (ltb (s + i) n) (s + i) (s + i - n) (lt-ltb (s + i) n h)

pub around_high : (n s i : ℕ) → n ≤ s + i → around n s i ≡ s + i - n
unfolding around
around_high n s i h = cond-false (ltb (s + i) n) (s + i) (s + i - n) (le-ltb (s + i) n h)

pub around_start : (n s : ℕ) → s < n → around n s 0 ≡ s
around_start n s h = let e = around_low n s 0 (omega arith) in omega arith

pub around_end : (n s : ℕ) → around n s n ≡ s
around_end n s = let e = around_high n s n (omega arith) in omega arith

pub around_below : (n s i : ℕ) → s < n → i < n → around n s i < n
around_below n s i hs hi = ⊎_elim (λ low. let e = around_low n s i low in omega arith) (λ high. let e = around_high n s i high in omega arith) (cases_lt (s + i) n)

pub around_differ : (n s i j : ℕ) → s < n → i < n → j < n → around n s i ≡ around n s j → i ≡ j
around_differ n s i j hs hi hj same =
    ⊎_elim
    (λ low. let e = around_low n s i low in ⊎_elim (λ low'. let f = around_low n s j low' in omega arith) (λ high'. let f = around_high n s j high' in omega arith) (cases_lt (s + j) n))
    (λ high. let e = around_high n s i high in ⊎_elim (λ low'. let f = around_low n s j low' in omega arith) (λ high'. let f = around_high n s j high' in omega arith) (cases_lt (s + j) n))
    (cases_lt (s + i) n)

-- the place after the next step
pub around_next : (n s i : ℕ) → s < n → i < n → (around n s i + 1) % n ≡ around n s (i + 1)
around_next n s i hs hi =
    ⊎_elim
    (λ low.
    let e = around_low n s i low in
    ⊎_elim
    (λ low'. let f = around_low n s (i + 1) low' in mod-eq_of_lt (omega arith) ∙ goal e f)
    (λ high'.
    let f = around_high n s (i + 1) high' in
    let whole : around n s i + 1 ≡ n = omega arith in
    ap (λ m. m % n) whole ∙ (mod_self n ∙ zero_next f high' low))
    (cases_lt (s + (i + 1)) n))
    (λ high.
    let e = around_high n s i high in
    let f = around_high n s (i + 1) (omega arith) in
    mod-eq_of_lt (omega arith) ∙ goal' e f high)
    (cases_lt (s + i) n)
  where
    goal : around n s i ≡ s + i → around n s (i + 1) ≡ s + (i + 1) → around n s i + 1 ≡ around n s (i + 1)
    goal e f = omega arith

    goal' : around n s i ≡ s + i - n → around n s (i + 1) ≡ s + (i + 1) - n → n ≤ s + i → around n s i + 1 ≡ around n s (i + 1)
    goal' e f h = omega arith

    zero_next : around n s (i + 1) ≡ s + (i + 1) - n → n ≤ s + (i + 1) → s + i < n → 0 ≡ around n s (i + 1)
    zero_next f high low = omega arith

-- each other place is reached in some number of steps
pub steps_to : (n s k : ℕ) → s < n → k < n → (k ≡ s → ⊥) → (d : ℕ) × (0 < d) × (d < n) × (around n s d ≡ k)
steps_to n s k hs hk other =
    ⊎_elim
    (λ after. let d : ℕ = k - s in let e = around_low n s (k - s) (omega arith) in (k - s, omega arith, omega arith, omega arith))
    (λ before. let ne : (k ≡ s → ⊥) = other in let e = around_high n s (n + k - s) (omega arith) in (n + k - s, omega arith, omega arith, omega arith))
    (cases_lt s k)

-- below d, either no place passes the test or one does
pub search_below : (p : ℕ → Bool) (d : ℕ) → ((i : ℕ) → i < d → p i ≡ false) ⊎ ((i : ℕ) × (i < d) × (p i ≡ true))
search_below p zero = inl (λ i h. absurd (omega arith))
search_below p (suc d) =
    ⊎_elim
    (λ none. ⊎_elim (λ yes. inr (d, omega arith, yes)) (λ no. inl (λ i h. last none no i h)) (cases_Bool (p d)))
    (λ some. inr (some.0, omega (arith, some.1), some.2))
    (search_below p d)
  where
    last : ((i : ℕ) → i < d → p i ≡ false) → p d ≡ false → (i : ℕ) → i < suc d → p i ≡ false
    last none none_here i h =
        let P : ℕ → Type 0 = λ m. p m ≡ false in
        ⊎_elim (λ below. none i below) (λ above. let e : d ≡ i = omega arith in subst P e none_here) (cases_lt i d)
