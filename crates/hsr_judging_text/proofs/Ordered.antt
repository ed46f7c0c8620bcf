-- Numbers that were sorted are those in their order: two lists with the same numbers that don't fall are one.
use Rattle.std.proofs.Common.{◌≡◌, ◌≢◌, ℕ, suc, ◌+◌, ◌<◌, ◌≤◌, ◌==◌, inl, inr, ◌∙◌, Bool, true, false, List, [], ◌∷◌, length, get_or, ap, sym, refl, arith, cond, nat_le}
use Rattle.std.proofs.lemmas.Bool.{cases_lt, eq-eqb, ne_eqb}
use Rattle.std.proofs.lemmas.Bool.Decides.{nat_tests}
use Rattle.std.proofs.lemmas.List.Sorted.{IsNonDecreasingBy-from_sort, sum_by-IsPermutation}
use Rattle.std.proofs.lemmas.List.Sums.{sum_by-cons}
use Rattle.std.specs.Prelude.{⊤}
use Rattle.std.specs.List.{sum_by}
use Rattle.std.specs.List.Sorted.{IsPermutation, IsNonDecreasingBy, IsSorted}
use Rattle.std.specs.Ordering.{nat_cmp}
use Rattle.hsr_judging_text.specs.Ports.{inserted, ordered}

-- ---- how often a number stands in a list

abbrev one : ℕ → ℕ → ℕ
one v n = cond (n == v) 1 0

abbrev often : ℕ → List ℕ → ℕ
often v [] = 0
often v (n ∷ ns) = one v n + often v ns

often_is : (v : ℕ) (ns : List ℕ) → sum_by (one v) ns ≡ often v ns
often_is v [] = refl
often_is v (n ∷ ns) = sum_by-cons (one v) n ns ∙ ap (λ (m : ℕ). one v n + m) (often_is v ns)

one_here : (v n : ℕ) → n ≡ v → one v n ≡ 1
one_here v n h = ap (λ (b : Bool). cond b 1 0) (eq-eqb n v h)

one_not : (v n : ℕ) → n ≢ v → one v n ≡ 0
one_not v n h = ap (λ (b : Bool). cond b 1 0) (ne_eqb n v h)

often_inserted : (v n : ℕ) (ns : List ℕ) → often v (inserted n ns) ≡ one v n + often v ns
often_inserted v n [] = refl
often_inserted v n (m ∷ ms) = by_test (nat_le n m) (often_inserted v n ms)
  where
    by_test : (b : Bool) → often v (inserted n ms) ≡ one v n + often v ms
        → often v (cond b (n ∷ m ∷ ms) (m ∷ inserted n ms)) ≡ one v n + (one v m + often v ms)
    by_test true e = refl
    by_test false e = omega (arith, e)

often_ordered : (v : ℕ) (ns : List ℕ) → often v (ordered ns) ≡ often v ns
often_ordered v [] = refl
often_ordered v (n ∷ ns) = often_inserted v n (ordered ns) ∙ ap (λ (m : ℕ). one v n + m) (often_ordered v ns)

-- ---- lists that don't fall

abbrev AtLeast : ℕ → List ℕ → Type 0
AtLeast n [] = ⊤
AtLeast n (m ∷ ms) = (n ≤ m) × AtLeast n ms

abbrev Rises : List ℕ → Type 0
Rises [] = ⊤
Rises (n ∷ ns) = AtLeast n ns × Rises ns

at_least_less : (l n : ℕ) (ns : List ℕ) → l ≤ n → AtLeast n ns → AtLeast l ns
at_least_less l n [] h all = tt
at_least_less l n (m ∷ ms) h all = (omega (arith, all.0), at_least_less l n ms h all.1)

at_least_inserted : (l n : ℕ) (ns : List ℕ) → l ≤ n → AtLeast l ns → AtLeast l (inserted n ns)
at_least_inserted l n [] h all = (h, tt)
at_least_inserted l n (m ∷ ms) h all = by_test (nat_le n m) (at_least_inserted l n ms h all.1)
  where
    by_test : (b : Bool) → AtLeast l (inserted n ms) → AtLeast l (cond b (n ∷ m ∷ ms) (m ∷ inserted n ms))
    by_test true rest = (h, all)
    by_test false rest = (all.0, rest)

rises_inserted : (n : ℕ) (ns : List ℕ) → Rises ns → Rises (inserted n ns)
rises_inserted n [] up = (tt, tt)
rises_inserted n (m ∷ ms) up = by_test (nat_le n m) refl (rises_inserted n ms up.1)
  where
    by_test : (b : Bool) → nat_le n m ≡ b → Rises (inserted n ms) → Rises (cond b (n ∷ m ∷ ms) (m ∷ inserted n ms))
    by_test true is rest = let le : n ≤ m = grind (arith, nat_tests) in ((le, at_least_less n m ms le up.0), up)
    by_test false is rest = let le : m ≤ n = grind (arith, nat_tests) in (at_least_inserted m n ms le up.0, rest)

rises_ordered : (ns : List ℕ) → Rises (ordered ns)
rises_ordered [] = tt
rises_ordered (n ∷ ns) = rises_inserted n (ordered ns) (rises_ordered ns)

-- ---- one order

often_below : (v : ℕ) (ns : List ℕ) (n : ℕ) → v < n → AtLeast n ns → often v ns ≡ 0
often_below v [] n h all = refl
often_below v (m ∷ ms) n h all =
    let here : one v m ≡ 0 = one_not v m (λ e. omega (arith, e, all.0)) in
    let rest : often v ms ≡ 0 = often_below v ms n h all.1 in
    omega (arith, here, rest)

not_below : (n m : ℕ) (ns ms : List ℕ) → AtLeast m ms → often n (n ∷ ns) ≡ often n (m ∷ ms) → n < m → ⊥
not_below n m ns ms all same h =
    let here : one n n ≡ 1 = one_here n n refl in
    let there : one n m ≡ 0 = one_not n m (λ e. omega (arith, e)) in
    let rest : often n ms ≡ 0 = often_below n ms m h all in
    omega (arith, same, here, there, rest)

first_same : (n m : ℕ) (ns ms : List ℕ) → AtLeast n ns → AtLeast m ms → ((v : ℕ) → often v (n ∷ ns) ≡ often v (m ∷ ms)) → n ≡ m
first_same n m ns ms up other same =
    elim (cases_lt n m) [
      | inl less ↦ absurd (not_below n m ns ms other (same n) less)
      | inr not_less ↦ elim (cases_lt m n) [ inl more ↦ absurd (not_below m n ms ns up (sym (same m)) more) | inr equal ↦ omega arith ]
    ]

one_order : (ns ms : List ℕ) → Rises ns → Rises ms → ((v : ℕ) → often v ns ≡ often v ms) → ns ≡ ms
one_order [] [] up other same = refl
one_order [] (m ∷ ms) up other same = absurd (let here : one m m ≡ 1 = one_here m m refl in omega (arith, here, same m))
one_order (n ∷ ns) [] up other same = absurd (let here : one n n ≡ 1 = one_here n n refl in omega (arith, here, same n))
one_order (n ∷ ns) (m ∷ ms) up other same =
    let first : n ≡ m = first_same n m ns ms up.0 other.0 same in
    let rest : ns ≡ ms = one_order ns ms up.1 other.1 (λ v. let e : one v n ≡ one v m = ap (one v) first in omega (arith, e, same v)) in
    ap (λ (x : ℕ). x ∷ ns) first ∙ ap (λ (xs : List ℕ). m ∷ xs) rest

-- ---- what a sort gives

at_least_from : (n : ℕ) (ns : List ℕ) → ((j : ℕ) → j < length ns → n ≤ get_or ns j 0) → AtLeast n ns
at_least_from n [] h = tt
at_least_from n (m ∷ ms) h = (h 0 (omega arith), at_least_from n ms (λ j below. h (suc j) (omega arith)))

rises_from : (ns : List ℕ) → IsNonDecreasingBy (λ (x : ℕ). x) ns → Rises ns
rises_from [] h = tt
rises_from (n ∷ ns) h =
    (at_least_from n ns (λ j below. h 0 (suc j) 0 (omega arith) (omega arith)), rises_from ns (λ i j d le below. h (suc i) (suc j) d (omega arith) (omega arith)))

pub ordered_by_sort : (ns sorted : List ℕ) → IsPermutation ns sorted → IsSorted nat_cmp sorted → sorted ≡ ordered ns
ordered_by_sort ns sorted same up =
    one_order sorted (ordered ns) (rises_from sorted (IsNonDecreasingBy-from_sort (λ (x : ℕ). x) sorted up)) (rises_ordered ns)
    (λ v. sym (often_is v sorted) ∙ sum_by-IsPermutation (one v) ns sorted same ∙ often_is v ns ∙ sym (often_ordered v ns))
