-- Where no window that begins at a send is crowded, no window is.
use Rattle.std.proofs.Common.{◌≡◌, ℕ, ◌+◌, ◌<◌, ◌≤◌, ◌==◌, nat_lt, nat_le, Bool, true, false, List, [], ◌∷◌, count_by, arith, ⊎_elim, zero, suc, leb-true, ltb-true, lt-ltb, le-leb}
use Rattle.std.specs.List.{list_any}
use Rattle.std.proofs.lemmas.Bool.{false≢true, cases_Bool, and_parts, and_from, or_parts, eqb-false, false_from_ne_true}
use Rattle.hsr_run_laws.specs.Budget.{Sent, is_within}
use Rattle.hsr_run_laws.proofs.Lists.{count_more, one_if, zero_if, count_zero}

pub count_wider : {X : Type 0} (p q : X → Bool) (xs : List X) → ((x : X) → p x ≡ true → q x ≡ true) → count_by p xs ≤ count_by q xs
count_wider p q [] so = omega arith
count_wider p q (x ∷ xs) so =
    let rest = count_wider p q xs so in
    let a = count_more p x xs in
    let b = count_more q x xs in
    ⊎_elim (λ yes. let one = one_if (p x) yes in let one' = one_if (q x) (so x yes) in omega arith)
    (λ not_it. let z = zero_if (p x) not_it in omega arith) (cases_Bool (p x))

pub window : (start width : ℕ) (s : Sent) → is_within start width s ≡ true → (start ≤ s.moment) × (s.moment < start + width)
window start width s h = let p = and_parts (nat_le start s.moment) (nat_lt s.moment (start + width)) h in (leb-true start s.moment p.0, ltb-true s.moment (start + width) p.1)

pub in_window : (start width : ℕ) (s : Sent) → start ≤ s.moment → s.moment < start + width → is_within start width s ≡ true
in_window start width s a b = and_from _ _ (le-leb start s.moment a) (lt-ltb s.moment (start + width) b)

-- a narrower window, without its first moment where no send has it
pub narrower : (ss : List Sent) (start width : ℕ) → list_any (λ s. s.moment == start) ss ≡ false → count_by (is_within start (suc width)) ss ≤ count_by (is_within (suc start) width) ss
narrower [] start width none = omega arith
narrower (s ∷ ss) start width none =
    let parts = or_parts (s.moment == start) (list_any (λ s. s.moment == start) ss) none in
    let other = eqb-false s.moment start parts.0 in
    let rest = narrower ss start width parts.1 in
    let a = count_more (is_within start (suc width)) s ss in
    let b = count_more (is_within (suc start) width) s ss in
    ⊎_elim
    (λ yes.
    let w = window start (suc width) s yes in
    let later : suc start ≤ s.moment = strict (s.moment) w.0 other in
    let one = one_if (is_within start (suc width) s) yes in
    let one' = one_if (is_within (suc start) width s) (in_window (suc start) width s later (omega (arith, w.1))) in
    omega arith)
    (λ not_it. let z = zero_if (is_within start (suc width) s) not_it in omega arith)
    (cases_Bool (is_within start (suc width) s))
  where
    strict : (m : ℕ) → start ≤ m → (m ≡ start → ⊥) → suc start ≤ m
    strict m a b = omega arith

pub no_window_crowded : (ss : List Sent) (room full : ℕ) → ((start : ℕ) → list_any (λ s. s.moment == start) ss ≡ true → count_by (is_within start full) ss ≤ room) →
    (width start : ℕ) → width ≤ full → count_by (is_within start width) ss ≤ room
no_window_crowded ss room full h zero start short =
    let none = count_zero (is_within start zero) ss (empty ss) in omega arith
  where
    empty : (ss : List Sent) → list_any (is_within start zero) ss ≡ false
    empty ss = false_from_ne_true (list_any (is_within start zero) ss) (λ yes. nobody ss yes)
      where
        nobody : (ss : List Sent) → list_any (is_within start zero) ss ≡ true → ⊥
        nobody [] hit = false≢true hit
        nobody (s ∷ ss) hit =
            ⊎_elim (λ here. let w = window start zero s here in omega (arith, w.0, w.1)) (λ later. nobody ss later) (Rattle.std.proofs.lemmas.Bool.or_cases (is_within start zero s) (list_any (is_within start zero) ss) hit)
no_window_crowded ss room full h (suc width) start short =
    let rest = no_window_crowded ss room full h width (suc start) (omega arith) in
    ⊎_elim
    (λ some.
    let wide = h start some in
    let less = count_wider (is_within start (suc width)) (is_within start full) ss (λ s yes. let w = window start (suc width) s yes in in_window start full s w.0 (omega (arith, w.1))) in
    omega arith)
    (λ none. let less = narrower ss start width none in omega arith)
    (cases_Bool (list_any (λ s. s.moment == start) ss))
