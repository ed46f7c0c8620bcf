-- Sends counted by the groups that they are in.
use Rattle.std.proofs.Common.{◌≡◌, ℕ, zero, suc, ◌+◌, ◌<◌, ◌≤◌, ◌==◌, ◌&&◌, nat_lt, Bool, true, false, cond, List, [], ◌∷◌, length, map, slice_index_or, refl, sym, ap, ◌∙◌, arith, ⊎_elim, eq-eqb, eqb-true, lt-ltb, ltb-true}
use Rattle.std.specs.Prelude.{count_by}
use Rattle.std.proofs.lemmas.Bool.{cases_lt, false≢true}
use Rattle.std.proofs.lemmas.List.Sums.{count_by-le-length, sum_by-cons}
use Rattle.hsr_faults.specs.Groups.{is_number}

pub count_cons : {X : Type 0} (p : X → Bool) (x : X) (xs : List X) → count_by p (x ∷ xs) ≡ cond {A = ℕ} (p x) 1 0 + count_by p xs
count_cons p x xs = sum_by-cons (λ y. cond {A = ℕ} (p y) 1 0) x xs

-- ---- by a map

pub count_map : {X Y : Type 0} (p : Y → Bool) (f : X → Y) (xs : List X) → count_by p (map f xs) ≡ count_by (λ x. p (f x)) xs
count_map p f [] = refl
count_map p f (x ∷ xs) = count_cons p (f x) (map f xs) ∙ (ap (λ n. cond {A = ℕ} (p (f x)) 1 0 + n) (count_map p f xs) ∙ sym (count_cons (λ y. p (f y)) x xs))

-- ---- what passes one test passes another

pub count_le : {X : Type 0} (p q : X → Bool) → ((x : X) → p x ≡ true → q x ≡ true) → (xs : List X) → count_by p xs ≤ count_by q xs
count_le p q also [] = omega arith
count_le {X = X} p q also (x ∷ xs) =
    let rest = count_le p q also xs in
    let mine = count_cons p x xs in
    let theirs = count_cons q x xs in
    let here = one (p x) refl in
    omega (arith, rest, mine, theirs, here)
  where
    one : (b : Bool) → p x ≡ b → cond {A = ℕ} (p x) 1 0 ≤ cond {A = ℕ} (q x) 1 0
    one true is =
        let a : cond {A = ℕ} (p x) 1 0 ≡ 1 = ap (λ (b : Bool). cond {A = ℕ} b 1 0) is in
        let c : cond {A = ℕ} (q x) 1 0 ≡ 1 = ap (λ (b : Bool). cond {A = ℕ} b 1 0) (also x is) in
        omega (arith, a, c)
    one false is = let a : cond {A = ℕ} (p x) 1 0 ≡ 0 = ap (λ (b : Bool). cond {A = ℕ} b 1 0) is in omega (arith, a)

-- ---- numbers below one

abbrev pub is_below : (ℕ → Bool) → ℕ → ℕ → Bool
is_below p n x = nat_lt x n && p x

pub none_below : (p : ℕ → Bool) (xs : List ℕ) → count_by (is_below p 0) xs ≡ 0
none_below p [] = refl
none_below p (x ∷ xs) =
    let rest = none_below p xs in
    let mine = count_cons (is_below p 0) x xs in
    let here = one (nat_lt x 0) refl in
    omega (arith, rest, mine, here)
  where
    one : (b : Bool) → nat_lt x 0 ≡ b → cond {A = ℕ} (nat_lt x 0 && p x) 1 0 ≡ 0
    one true is = let low = ltb-true x 0 is in absurd (omega (arith, low))
    one false is = ap (λ (b : Bool). cond {A = ℕ} (b && p x) 1 0) is

-- of one number more
one_below : (p : ℕ → Bool) (n x : ℕ) → cond {A = ℕ} (nat_lt x (n + 1) && p x) 1 0 ≡ cond {A = ℕ} (nat_lt x n && p x) 1 0 + cond {A = ℕ} (p n) (cond {A = ℕ} (x == n) 1 0) 0
one_below p n x = by_test (nat_lt x n) refl (x == n) refl
  where
    by_test : (b : Bool) → nat_lt x n ≡ b → (c : Bool) → (x == n) ≡ c → cond {A = ℕ} (nat_lt x (n + 1) && p x) 1 0 ≡ cond {A = ℕ} (nat_lt x n && p x) 1 0 + cond {A = ℕ} (p n) (cond {A = ℕ} (x == n) 1 0) 0
    by_test true low true same = let a = ltb-true x n low in let e = eqb-true x n same in absurd (omega (arith, a, e))
    by_test true low false other =
        let a = ltb-true x n low in
        let more : nat_lt x (n + 1) ≡ true = lt-ltb x (n + 1) (omega (arith, a)) in
        let left : cond {A = ℕ} (nat_lt x (n + 1) && p x) 1 0 ≡ cond {A = ℕ} (p x) 1 0 = ap (λ (b : Bool). cond {A = ℕ} (b && p x) 1 0) more in
        let right : cond {A = ℕ} (nat_lt x n && p x) 1 0 ≡ cond {A = ℕ} (p x) 1 0 = ap (λ (b : Bool). cond {A = ℕ} (b && p x) 1 0) low in
        let last : cond {A = ℕ} (p n) (cond {A = ℕ} (x == n) 1 0) 0 ≡ 0 = ap (λ (b : Bool). cond {A = ℕ} (p n) (cond {A = ℕ} b 1 0) 0) other ∙ nothing (p n) in
        omega (arith, left, right, last)
      where
        nothing : (b : Bool) → cond {A = ℕ} b 0 0 ≡ 0
        nothing true = refl
        nothing false = refl
    by_test false high true same =
        let e = eqb-true x n same in
        let more : nat_lt x (n + 1) ≡ true = lt-ltb x (n + 1) (omega (arith, e)) in
        let left : cond {A = ℕ} (nat_lt x (n + 1) && p x) 1 0 ≡ cond {A = ℕ} (p x) 1 0 = ap (λ (b : Bool). cond {A = ℕ} (b && p x) 1 0) more in
        let right : cond {A = ℕ} (nat_lt x n && p x) 1 0 ≡ 0 = ap (λ (b : Bool). cond {A = ℕ} (b && p x) 1 0) high in
        let last : cond {A = ℕ} (p n) (cond {A = ℕ} (x == n) 1 0) 0 ≡ cond {A = ℕ} (p x) 1 0 = ap (λ (b : Bool). cond {A = ℕ} (p n) (cond {A = ℕ} b 1 0) 0) same ∙ ap (λ m. cond {A = ℕ} (p m) 1 0) (sym e) in
        omega (arith, left, right, last)
    by_test false high false other =
        let more : nat_lt x (n + 1) ≡ false = not_below (nat_lt x (n + 1)) refl in
        let left : cond {A = ℕ} (nat_lt x (n + 1) && p x) 1 0 ≡ 0 = ap (λ (b : Bool). cond {A = ℕ} (b && p x) 1 0) more in
        let right : cond {A = ℕ} (nat_lt x n && p x) 1 0 ≡ 0 = ap (λ (b : Bool). cond {A = ℕ} (b && p x) 1 0) high in
        let last : cond {A = ℕ} (p n) (cond {A = ℕ} (x == n) 1 0) 0 ≡ 0 = ap (λ (b : Bool). cond {A = ℕ} (p n) (cond {A = ℕ} b 1 0) 0) other ∙ nothing (p n) in
        omega (arith, left, right, last)
      where
        nothing : (b : Bool) → cond {A = ℕ} b 0 0 ≡ 0
        nothing true = refl
        nothing false = refl

        not_below : (b : Bool) → nat_lt x (n + 1) ≡ b → nat_lt x (n + 1) ≡ false
        not_below false is = is
        not_below true is =
            let low = ltb-true x (n + 1) is in
            ⊎_elim
            (λ (lower : x < n). absurd (false≢true (sym high ∙ lt-ltb x n lower)))
            (λ high_up. absurd (false≢true (sym other ∙ eq-eqb x n (omega (arith, low, high_up)))))
            (cases_lt x n)

pub count_below_more : (p : ℕ → Bool) (n : ℕ) (xs : List ℕ) → count_by (is_below p (n + 1)) xs ≡ count_by (is_below p n) xs + cond {A = ℕ} (p n) (count_by (is_number n) xs) 0
count_below_more p n [] = nothing (p n)
  where
    nothing : (b : Bool) → 0 ≡ 0 + cond {A = ℕ} b 0 0
    nothing true = refl
    nothing false = refl
count_below_more p n (x ∷ xs) =
    let rest = count_below_more p n xs in
    let mine = count_cons (is_below p (n + 1)) x xs in
    let theirs = count_cons (is_below p n) x xs in
    let here = one_below p n x in
    let last : cond {A = ℕ} (p n) (count_by (is_number n) (x ∷ xs)) 0 ≡ cond {A = ℕ} (p n) (cond {A = ℕ} (x == n) 1 0) 0 + cond {A = ℕ} (p n) (count_by (is_number n) xs) 0 =
    ap (λ m. cond {A = ℕ} (p n) m 0) (count_cons (is_number n) x xs) ∙ split (p n) in
    omega (arith, rest, mine, theirs, here, last)
  where
    split : (b : Bool) → cond {A = ℕ} b (cond {A = ℕ} (x == n) 1 0 + count_by (is_number n) xs) 0 ≡ cond {A = ℕ} b (cond {A = ℕ} (x == n) 1 0) 0 + cond {A = ℕ} b (count_by (is_number n) xs) 0
    split true = refl
    split false = refl

-- where all are below it
pub all_below : (p : ℕ → Bool) (n : ℕ) (xs : List ℕ) → ((i d : ℕ) → i < length xs → slice_index_or xs i d < n) → count_by (is_below p n) xs ≡ count_by p xs
all_below p n [] low = refl
all_below p n (x ∷ xs) low =
    let here : nat_lt x n ≡ true = lt-ltb x n (low zero zero (omega arith)) in
    let one : cond {A = ℕ} (nat_lt x n && p x) 1 0 ≡ cond {A = ℕ} (p x) 1 0 = ap (λ (b : Bool). cond {A = ℕ} (b && p x) 1 0) here in
    let rest = all_below p n xs (λ i d inside. low (suc i) d (omega (arith, inside))) in
    let mine = count_cons (is_below p n) x xs in
    let theirs = count_cons p x xs in
    omega (arith, one, rest, mine, theirs)

-- the sends of one group more
pub counted_more : (p : ℕ → Bool) (n : ℕ) (of : List ℕ) (sends one count : ℕ) (b : Bool) → sends ≡ count_by (is_below p n) of → one ≡ cond {A = ℕ} b count 0 → b ≡ p n → count ≡ count_by (is_number n) of →
    sends + one ≡ count_by (is_below p (n + 1)) of
counted_more p n of sends one count b before is test many =
    let more = count_below_more p n of in
    let mine : one ≡ cond {A = ℕ} (p n) (count_by (is_number n) of) 0 = is ∙ (ap (λ (t : Bool). cond {A = ℕ} t count 0) test ∙ ap (λ m. cond {A = ℕ} (p n) m 0) many) in
    omega (arith, more, mine, before)

-- and there are no more than sends
pub counted_fits : (p : ℕ → Bool) (n : ℕ) (of : List ℕ) (sends : ℕ) → sends ≡ count_by (is_below p n) of → sends ≤ length of
counted_fits p n of sends is = let few = count_by-le-length (is_below p n) of in omega (arith, is, few)
