-- Facts on lists of any items.
use Rattle.std.proofs.Common.{◌≡◌, ℕ, ◌+◌, ◌<◌, Bool, true, false, not, ◌&&◌, cond, List, [], ◌∷◌, take, drop, filter, count_by, IsPermutation, refl, sym, ◌∙◌, subst, arith, ⊎_elim, zero, suc}
use Rattle.std.specs.List.{list_any, AllByRecursion}
use Rattle.std.proofs.lemmas.List.Sums.{sum_by-cons}
use Rattle.std.proofs.lemmas.List.Sorted.{sum_by-IsPermutation, All-permutation}
use Rattle.std.proofs.lemmas.List.Elements.{All-from_recursion, recursion_from_All}
use Rattle.std.proofs.lemmas.Bool.{or_cases, or_left, or_right, false≢true, cases_Bool, and_from, or_parts}

pub count_more : {X : Type 0} (p : X → Bool) (x : X) (xs : List X) → count_by p (x ∷ xs) ≡ cond (p x) 1 0 + count_by p xs
count_more p x xs = sum_by-cons (λ y. cond (p y) 1 0) x xs

pub one_if : (b : Bool) → b ≡ true → cond {A = ℕ} b 1 0 ≡ 1
one_if true h = refl
one_if false h = absurd (false≢true h)

pub zero_if : (b : Bool) → b ≡ false → cond {A = ℕ} b 1 0 ≡ 0
zero_if true h = absurd (false≢true (sym h))
zero_if false h = refl

pub count_positive : {X : Type 0} (p : X → Bool) (xs : List X) → list_any p xs ≡ true → 0 < count_by p xs
count_positive p [] h = absurd (false≢true h)
count_positive p (x ∷ xs) h =
    let e = count_more p x xs in
    ⊎_elim (λ here. let one = one_if (p x) here in omega arith)
    (λ there. let rest = count_positive p xs there in omega arith)
    (or_cases (p x) (list_any p xs) h)

pub count_zero : {X : Type 0} (p : X → Bool) (xs : List X) → list_any p xs ≡ false → count_by p xs ≡ 0
count_zero p [] h = refl
count_zero p (x ∷ xs) h =
    let both = or_parts (p x) (list_any p xs) h in
    let none = zero_if (p x) both.0 in
    let rest = count_zero p xs both.1 in
    let e = count_more p x xs in
    omega arith

pub any_counted : {X : Type 0} (p : X → Bool) (xs : List X) → 0 < count_by p xs → list_any p xs ≡ true
any_counted p xs h =
    ⊎_elim (λ yes. yes) (λ no. let none = count_zero p xs no in absurd (omega arith)) (cases_Bool (list_any p xs))

pub any_permutation : {X : Type 0} (p : X → Bool) (xs ys : List X) → IsPermutation xs ys → list_any p xs ≡ true → list_any p ys ≡ true
any_permutation p xs ys moved h =
    let same = sum_by-IsPermutation (λ x. cond (p x) 1 0) xs ys moved in
    let some = count_positive p xs h in
    any_counted p ys (subst (λ n. 0 < n) (sym same) some)

pub all_permutation : {X : Type 0} (P : X → Type 0) (xs ys : List X) → IsPermutation xs ys → AllByRecursion P xs → AllByRecursion P ys
all_permutation P xs ys moved h =
    recursion_from_All P ys (All-permutation P xs ys moved (All-from_recursion P xs h))

-- what passes p passes q, if none passes p and not q
pub any_other : {X : Type 0} (p q : X → Bool) (xs : List X) → list_any p xs ≡ true → list_any (λ x. p x && not (q x)) xs ≡ false → list_any q xs ≡ true
any_other p q [] h none = h
any_other p q (x ∷ xs) h none =
    let parts = or_parts (p x && not (q x)) (list_any (λ y. p y && not (q y)) xs) none in
    ⊎_elim (λ here. or_left (q x) (list_any q xs) (passed (p x) (q x) here parts.0))
    (λ there. or_right (q x) (list_any q xs) (any_other p q xs there parts.1))
    (or_cases (p x) (list_any p xs) h)
  where
    passed : (a b : Bool) → a ≡ true → (a && not b) ≡ false → b ≡ true
    passed a true e n = refl
    passed a false e n = absurd (false≢true (sym n ∙ and_from a (not false) e refl))

pub any_filter : {X : Type 0} (p q : X → Bool) (xs : List X) → list_any p (filter q xs) ≡ true → list_any p xs ≡ true
any_filter p q [] h = h
any_filter p q (x ∷ xs) h = go (q x) (any_filter p q xs) h
  where
    go : (b : Bool) → (list_any p (filter q xs) ≡ true → list_any p xs ≡ true) → list_any p (cond b (x ∷ filter q xs) (filter q xs)) ≡ true → list_any p (x ∷ xs) ≡ true
    go true rest h = ⊎_elim (λ here. or_left (p x) _ here) (λ there. or_right (p x) _ (rest there)) (or_cases (p x) _ h)
    go false rest h = or_right (p x) _ (rest h)

pub any_take : {X : Type 0} (p : X → Bool) (n : ℕ) (xs : List X) → list_any p (take n xs) ≡ true → list_any p xs ≡ true
any_take p zero xs h = absurd (false≢true h)
any_take p (suc n) [] h = h
any_take p (suc n) (x ∷ xs) h =
    ⊎_elim (λ here. or_left (p x) _ here) (λ there. or_right (p x) _ (any_take p n xs there)) (or_cases (p x) _ h)

pub any_implies : {X : Type 0} (p q : X → Bool) (xs : List X) → AllByRecursion (λ x. p x ≡ true → q x ≡ true) xs → list_any p xs ≡ true → list_any q xs ≡ true
any_implies p q [] all h = h
any_implies p q (x ∷ xs) all h =
    ⊎_elim (λ here. or_left (q x) _ (all.0 here)) (λ there. or_right (q x) _ (any_implies p q xs all.1 there)) (or_cases (p x) _ h)

pub all_filter : {X : Type 0} (P : X → Type 0) (q : X → Bool) (xs : List X) → AllByRecursion P xs → AllByRecursion P (filter q xs)
all_filter P q [] h = h
all_filter P q (x ∷ xs) h =
    let rest = all_filter P q xs h.1 in
    elim (q x) as (λ b. AllByRecursion P (cond b (x ∷ filter q xs) (filter q xs))) [ true ↦ (h.0, rest) | false ↦ rest ]

pub all_take : {X : Type 0} (P : X → Type 0) (n : ℕ) (xs : List X) → AllByRecursion P xs → AllByRecursion P (take n xs)
all_take P zero xs h = tt
all_take P (suc n) [] h = h
all_take P (suc n) (x ∷ xs) h = (h.0, all_take P n xs h.1)

pub all_weaker : {X : Type 0} (P Q : X → Type 0) (xs : List X) → ((x : X) → P x → Q x) → AllByRecursion P xs → AllByRecursion Q xs
all_weaker P Q [] so h = tt
all_weaker P Q (x ∷ xs) so h = (so x h.0, all_weaker P Q xs so h.1)

pub any_so : {X : Type 0} (p q : X → Bool) (xs : List X) → ((x : X) → p x ≡ true → q x ≡ true) → list_any p xs ≡ true → list_any q xs ≡ true
any_so p q [] so h = h
any_so p q (x ∷ xs) so h = ⊎_elim (λ here. or_left (q x) _ (so x here)) (λ later. or_right (q x) _ (any_so p q xs so later)) (or_cases (p x) _ h)

pub any_filtered : {X : Type 0} (p q : X → Bool) (xs : List X) → AllByRecursion (λ x. p x ≡ true → q x ≡ true) xs → list_any p xs ≡ true → list_any p (filter q xs) ≡ true
any_filtered p q [] so h = h
any_filtered p q (x ∷ xs) so h =
    ⊎_elim (λ here. kept (q x) (so.0 here) here) (λ later. more (q x) (any_filtered p q xs so.1 later)) (or_cases (p x) (list_any p xs) h)
  where
    kept : (b : Bool) → b ≡ true → p x ≡ true → list_any p (cond b (x ∷ filter q xs) (filter q xs)) ≡ true
    kept true e here = or_left (p x) _ here
    kept false e here = absurd (false≢true e)

    more : (b : Bool) → list_any p (filter q xs) ≡ true → list_any p (cond b (x ∷ filter q xs) (filter q xs)) ≡ true
    more true h = or_right (p x) _ h
    more false h = h

-- the element that passes, with what holds of each
pub any_with : {X : Type 0} (P : X → Type 0) (p : X → Bool) (xs : List X) → AllByRecursion P xs → list_any p xs ≡ true → (x : X) × P x × (p x ≡ true)
any_with P p [] all h = absurd (false≢true h)
any_with P p (x ∷ xs) all h = ⊎_elim (λ here. (x, all.0, here)) (λ later. any_with P p xs all.1 later) (or_cases (p x) (list_any p xs) h)

pub all_drop : {X : Type 0} (P : X → Type 0) (n : ℕ) (xs : List X) → AllByRecursion P xs → AllByRecursion P (drop n xs)
all_drop P zero xs h = h
all_drop P (suc n) [] h = h
all_drop P (suc n) (x ∷ xs) h = all_drop P n xs h.1

pub all_both : {X : Type 0} (P Q : X → Type 0) (xs : List X) → AllByRecursion P xs → AllByRecursion Q xs → AllByRecursion (λ x. P x × Q x) xs
all_both P Q [] a b = tt
all_both P Q (x ∷ xs) a b = ((a.0, b.0), all_both P Q xs a.1 b.1)

pub none_all : {X : Type 0} (p : X → Bool) (xs : List X) → list_any p xs ≡ false → AllByRecursion (λ x. p x ≡ false) xs
none_all p [] h = tt
none_all p (x ∷ xs) h = let parts = or_parts (p x) (list_any p xs) h in (parts.0, none_all p xs parts.1)

pub filter_holds : {X : Type 0} (q : X → Bool) (xs : List X) → AllByRecursion (λ x. q x ≡ true) (filter q xs)
filter_holds q [] = tt
filter_holds q (x ∷ xs) = go (q x) refl (filter_holds q xs)
  where
    go : (b : Bool) → q x ≡ b → AllByRecursion (λ x. q x ≡ true) (filter q xs) → AllByRecursion (λ x. q x ≡ true) (cond b (x ∷ filter q xs) (filter q xs))
    go true e rest = (e, rest)
    go false e rest = rest

pub all_implied : {X : Type 0} (P Q : X → Type 0) → ((x : X) → P x → Q x) → (xs : List X) → AllByRecursion P xs → AllByRecursion Q xs
all_implied P Q f [] all = tt
all_implied P Q f (x ∷ xs) all = (f x all.0, all_implied P Q f xs all.1)
