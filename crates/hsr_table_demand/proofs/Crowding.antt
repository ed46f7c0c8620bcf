-- How many of moments that rise lie in a window.
use Rattle.std.proofs.Common.{◌≡◌, ℕ, ◌+◌, ◌-◌, ◌<◌, ◌≤◌, nat_lt, ◌⊎◌, inl, inr, ⊎_elim, max, Bool, true, false, cond, List, [], ◌∷◌, length, count_by, map, slice_index, slice_index_or, refl, subst, sym, ap, ◌∙◌, arith, zero, suc}
use Rattle.std.specs.List.Sorted.{IsNonDecreasing, IsPartitionPoint}
use Rattle.std.proofs.lemmas.Bool.Decides.{nat_tests}
use Rattle.std.proofs.lemmas.List.Sums.{sum_by-cons}
use Rattle.std.proofs.lemmas.Bool.{cases_lt}
use Rattle.hsr_table_demand.specs.Windows.{IsFirstOver, IsMostBelow, crowd_in, greatest, lies_in, most_in}

-- ---- the index up to which a test passes is how many pass

abbrev ones : Bool → ℕ
ones b = cond b 1 0

count_none : {X : Type 0} (p : X → Bool) (xs : List X) → ((k : ℕ) (d : X) → k < length xs → p (slice_index_or xs k d) ≡ false) → count_by p xs ≡ 0
count_none p [] h = refl
count_none p (x ∷ xs) h =
    let more = sum_by-cons (λ y. ones (p y)) x xs in
    let here : ones (p x) ≡ ones false = ap ones (h 0 x (omega arith)) in
    let rest = count_none p xs (λ k d below. h (suc k) d (omega (arith, below))) in
    omega arith

pub point_counts : {X : Type 0} (p : X → Bool) (xs : List X) (n : ℕ) → n ≤ length xs → IsPartitionPoint (λ y. p y ≡ true) (λ y. p y ≡ false) xs n → n ≡ count_by p xs
point_counts p [] n short h = let e : n ≡ 0 = omega (arith, short) in e
point_counts p (x ∷ xs) zero short h = sym (count_none p (x ∷ xs) (λ k d below. h.1 k d (omega arith) below))
point_counts p (x ∷ xs) (suc n) short h =
    let rest = point_counts p xs n (omega (arith, short))
    ((λ k d low below. h.0 (suc k) d (omega arith) (omega (arith, below))), (λ k d low below. h.1 (suc k) d (omega (arith, low)) (omega (arith, below)))) in
    let here : ones (p x) ≡ ones true = ap ones (h.0 0 x (omega arith) (omega arith)) in
    let more = sum_by-cons (λ y. ones (p y)) x xs in
    omega arith

-- ---- those in a window are those before its end but not before its start

one : (start m : ℕ) → ones (lies_in start m) + ones (nat_lt m start) ≡ ones (nat_lt (m - start) 800000)
one start m = grind (arith, nat_tests)

pub parts : (start : ℕ) (ms : List ℕ) → crowd_in ms start + count_by (λ m. nat_lt m start) ms ≡ count_by (λ m. nat_lt (m - start) 800000) ms
parts start [] = refl
parts start (m ∷ ms) =
    let inside = sum_by-cons (λ y. ones (lies_in start y)) m ms in
    let before = sum_by-cons (λ y. ones (nat_lt y start)) m ms in
    let until = sum_by-cons (λ y. ones (nat_lt (y - start) 800000)) m ms in
    let here = one start m in
    let rest = parts start ms in
    omega arith

-- ---- one more window

pub most_more : (ms : List ℕ) (i most count new : ℕ) → IsMostBelow ms i most → count ≡ crowd_in ms (slice_index ms i) → new ≡ max most count → IsMostBelow ms (i + 1) new
most_more ms i most count new before here is =
    record {
      upper = λ j below. ⊎_elim
          (λ lower. let old = before.upper j lower in omega (arith, old, is))
          (λ last.
          let e : i ≡ j = omega (arith, below, last) in
          let P : ℕ → Type 0 = λ k. crowd_in ms (slice_index ms k) ≤ new in
          subst P e (omega (arith, here, is)))
          (cases_lt j i);
      reached = ⊎_elim
          (λ more. inl (i, omega arith, sym here ∙ (let e : count ≡ new = omega (arith, more, is) in e)))
          (λ less. ⊎_elim
          (λ old. let under = old.1 in inl (old.0, omega (arith, under), old.2 ∙ (let e : most ≡ new = omega (arith, less, is) in e)))
          (λ none. inl (i, omega arith, sym here ∙ (let e : count ≡ new = omega (arith, none.1, less, is) in e)))
          before.reached)
          (cases_lt most count);
    }

pub first_over : (room : ℕ) (ms : List ℕ) (i most count : ℕ) → i < length ms → IsMostBelow ms i most → most ≤ room → count ≡ crowd_in ms (slice_index ms i) → room < count → IsFirstOver room ms (slice_index ms i)
first_over room ms i most count below before fits here more =
    record {
      index = i;
      below = below;
      is = refl;
      crowded = omega (arith, here, more);
      before = λ j low. let old = before.upper j low in omega (arith, old, fits);
    }

-- ---- the greatest of all windows

greatest_bound : (f : ℕ → ℕ) (xs : List ℕ) (m : ℕ) → ((i : ℕ) → i < length xs → f (slice_index xs i) ≤ m) → greatest (map f xs) ≤ m
greatest_bound f [] m h = omega arith
greatest_bound f (x ∷ xs) m h =
    let here = h 0 (omega arith) in
    let rest = greatest_bound f xs m (λ i below. h (suc i) (omega (arith, below))) in
    omega (arith, here, rest)

greatest_above : (f : ℕ → ℕ) (xs : List ℕ) (i : ℕ) → i < length xs → f (slice_index xs i) ≤ greatest (map f xs)
greatest_above f [] i below = absurd (omega (arith, below))
greatest_above f (x ∷ xs) zero below = omega arith
greatest_above f (x ∷ xs) (suc i) below = let rest = greatest_above f xs i (omega (arith, below)) in omega (arith, rest)

pub most_is : (ms : List ℕ) (most : ℕ) → IsMostBelow ms (length ms) most → most ≡ most_in ms
most_is ms most is =
    let bound = greatest_bound (crowd_in ms) ms most is.upper in
    ⊎_elim
    (λ at. let above = greatest_above (crowd_in ms) ms at.0 at.1 in let here = at.2 in omega (arith, bound, above, here))
    (λ none. let zero_is = none.1 in omega (arith, bound, zero_is))
    is.reached

-- ---- any window

count_le : (p q : ℕ → Bool) (xs : List ℕ) → ((k : ℕ) → k < length xs → ones (p (slice_index xs k)) ≤ ones (q (slice_index xs k))) → count_by p xs ≤ count_by q xs
count_le p q [] h = omega arith
count_le p q (x ∷ xs) h =
    let here = h 0 (omega arith) in
    let rest = count_le p q xs (λ k below. h (suc k) (omega (arith, below))) in
    let left = sum_by-cons (λ y. ones (p y)) x xs in
    let right = sum_by-cons (λ y. ones (q y)) x xs in
    omega (arith, here, rest, left, right)

-- what lies in a window and not before a moment in it lies in the window of that moment
lies_later : (start m x : ℕ) → lies_in start m ≡ true → m ≤ x → ones (lies_in start x) ≤ ones (lies_in m x)
lies_later start m x lies later = grind (arith, nat_tests, lies, later)

-- a window holds nothing, or no more than that of a moment in it
abbrev HasFirst : List ℕ → ℕ → Type 0
HasFirst ms start = (crowd_in ms start ≡ 0) ⊎ ((i : ℕ) × (i < length ms) × (crowd_in ms start ≤ crowd_in ms (slice_index ms i)))

first_of : (m : ℕ) (ms : List ℕ) (start : ℕ) (lies : Bool) → IsNonDecreasing (m ∷ ms) → lies_in start m ≡ lies → HasFirst ms start → HasFirst (m ∷ ms) start
first_of m ms start true rise lies rest =
    inr (0, omega arith, count_le (lies_in start) (lies_in m) (m ∷ ms) (λ k below. lies_later start m (slice_index (m ∷ ms) k) lies (rise 0 k 0 (omega arith) below)))
first_of m ms start false rise lies rest =
    let cons = sum_by-cons (λ y. ones (lies_in start y)) m ms in
    let none : ones (lies_in start m) ≡ ones false = ap ones lies in
    ⊎_elim
    (λ nothing. inl (omega (arith, cons, none, nothing)))
    (λ at. let more = sum_by-cons (λ y. ones (lies_in (slice_index ms at.0) y)) m ms in let below = at.1 in let least = at.2 in
    inr (suc at.0, omega (arith, below), omega (arith, cons, none, least, more)))
    rest

first_in : (ms : List ℕ) (start : ℕ) → IsNonDecreasing ms → HasFirst ms start
first_in [] start rise = inl refl
first_in (m ∷ ms) start rise =
    first_of m ms start (lies_in start m) rise refl (first_in ms start (λ i j d low below. rise (suc i) (suc j) d (omega (arith, low)) (omega (arith, below))))

pub any_window : (ms : List ℕ) (most : ℕ) → IsNonDecreasing ms → IsMostBelow ms (length ms) most → (start : ℕ) → crowd_in ms start ≤ most
any_window ms most rise is start =
    ⊎_elim (λ nothing. omega (arith, nothing)) (λ at. let bound = is.upper at.0 at.1 in let least = at.2 in omega (arith, bound, least)) (first_in ms start rise)
