-- Each x has a y of its own: there are no more xs than ys.
use Rattle.std.proofs.Common.{◌≡◌, ℕ, ◌+◌, ◌≤◌, Bool, true, false, not, ◌&&◌, cond, List, [], ◌∷◌, length, filter, count_by, refl, arith, ⊎_elim}
use Rattle.std.specs.List.{list_any, AllByRecursion}
use Rattle.std.proofs.lemmas.Bool.{or_cases, or_left, or_right, false≢true, and_parts}
use Rattle.hsr_run_laws.proofs.Lists.{count_more, one_if}

pub count_filter : {Y : Type 0} (p q : Y → Bool) (ys : List Y) → count_by q (filter p ys) ≤ count_by q ys
count_filter p q [] = omega arith
count_filter p q (y ∷ ys) = go (p y) (count_filter p q ys)
  where
    go : (b : Bool) → count_by q (filter p ys) ≤ count_by q ys → count_by q (cond b (y ∷ filter p ys) (filter p ys)) ≤ count_by q (y ∷ ys)
    go true h = let a = count_more q y (filter p ys) in let b = count_more q y ys in omega arith
    go false h = let b = count_more q y ys in omega arith

-- without those that r picks, of which one passes q, one less passes q
pub count_without : {Y : Type 0} (r q : Y → Bool) (ys : List Y) → list_any (λ y. r y && q y) ys ≡ true → count_by q (filter (λ y. not (r y)) ys) + 1 ≤ count_by q ys
count_without r q [] h = absurd (false≢true h)
count_without r q (y ∷ ys) h =
    ⊎_elim
    (λ here. let parts = and_parts (r y) (q y) here in
    let one = one_if (q y) parts.1 in
    let e = count_more q y ys in
    let less = count_filter (λ y. not (r y)) q ys in
    picked (r y) parts.0 one e less)
    (λ later. go (not (r y)) (count_without r q ys later))
    (or_cases (r y && q y) (list_any (λ y. r y && q y) ys) h)
  where
    picked : (b : Bool) → b ≡ true → cond {A = ℕ} (q y) 1 0 ≡ 1 → count_by q (y ∷ ys) ≡ cond (q y) 1 0 + count_by q ys → count_by q (filter (λ y. not (r y)) ys) ≤ count_by q ys →
        count_by q (cond (not b) (y ∷ filter (λ y. not (r y)) ys) (filter (λ y. not (r y)) ys)) + 1 ≤ count_by q (y ∷ ys)
    picked true h one e less = omega arith
    picked false h one e less = absurd (false≢true h)

    go : (b : Bool) → count_by q (filter (λ y. not (r y)) ys) + 1 ≤ count_by q ys → count_by q (cond b (y ∷ filter (λ y. not (r y)) ys) (filter (λ y. not (r y)) ys)) + 1 ≤ count_by q (y ∷ ys)
    go true h = let a = count_more q y (filter (λ y. not (r y)) ys) in let b = count_more q y ys in omega arith
    go false h = let b = count_more q y ys in omega arith

pub any_without : {Y : Type 0} (r p : Y → Bool) (ys : List Y) → ((y : Y) → p y ≡ true → r y ≡ true → ⊥) → list_any p ys ≡ true → list_any p (filter (λ y. not (r y)) ys) ≡ true
any_without r p [] apart h = h
any_without r p (y ∷ ys) apart h =
    ⊎_elim (λ here. kept (r y) here (λ e. apart y here e)) (λ later. more (not (r y)) (any_without r p ys apart later)) (or_cases (p y) (list_any p ys) h)
  where
    kept : (b : Bool) → p y ≡ true → (b ≡ true → ⊥) → list_any p (cond (not b) (y ∷ filter (λ y. not (r y)) ys) (filter (λ y. not (r y)) ys)) ≡ true
    kept true here no_pick = absurd (no_pick refl)
    kept false here no_pick = or_left (p y) _ here

    more : (b : Bool) → list_any p (filter (λ y. not (r y)) ys) ≡ true → list_any p (cond b (y ∷ filter (λ y. not (r y)) ys) (filter (λ y. not (r y)) ys)) ≡ true
    more true h = or_right (p y) _ h
    more false h = h

-- no two have one match
abbrev pub Apart : {X Y : Type 0} → (X → Y → Bool) → List X → Type 0
Apart m [] = Unit {0}
Apart {X} {Y} m (x ∷ xs) = AllByRecursion (λ z. (y : Y) → m z y ≡ true → m x y ≡ true → ⊥) xs × Apart m xs

pub pigeon : {X Y : Type 0} (m : X → Y → Bool) (q : Y → Bool) (xs : List X) (ys : List Y) → Apart m xs → AllByRecursion (λ x. list_any (λ y. m x y && q y) ys ≡ true) xs → length xs ≤ count_by q ys
pigeon m q [] ys apart all = omega arith
pigeon m q (x ∷ xs) ys apart all =
    let less = count_without (m x) q ys all.0 in
    let rest = pigeon m q xs (filter (λ y. not (m x y)) ys) apart.1 (others xs apart.0 all.1) in
    omega arith
  where
    others : (zs : List _) → AllByRecursion (λ z. (y : _) → m z y ≡ true → m x y ≡ true → ⊥) zs → AllByRecursion (λ z. list_any (λ y. m z y && q y) ys ≡ true) zs →
        AllByRecursion (λ z. list_any (λ y. m z y && q y) (filter (λ y. not (m x y)) ys) ≡ true) zs
    others [] a b = tt
    others (z ∷ zs) a b =
        (any_without (m x) (λ y. m z y && q y) ys (λ y h e. a.0 y (and_parts (m z y) (q y) h).0 e) b.0, others zs a.1 b.1)
