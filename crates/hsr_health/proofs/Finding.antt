-- The first of a list that is such, and how many are.
use Rattle.std.proofs.Common.{◌≡◌, ℕ, zero, suc, ◌+◌, ◌<◌, ◌≤◌, ◌&&◌, Bool, true, false, cond, ◌⊎◌, inl, inr, List, [], ◌∷◌, ◌++◌, get_or, length, map, take, refl, sym, ap, ◌∙◌, arith, Option, Some, None}
use Rattle.std.specs.Prelude.{nat_eq, nat_lt, count_by, filter, find, slice_get, sum_by}
use Rattle.std.specs.List.{range_with_len}
use Rattle.std.proofs.lemmas.List.{map-id, take_all}
use Rattle.std.proofs.lemmas.List.FromFn.{get_or-map-range_with_len, get_or-range_with_len, length-map-range_with_len, length-range_with_len, map-range_with_len_more, sum_by-map-range_with_len_more}
use Rattle.std.proofs.lemmas.List.Sums.{sum_by-cons}
use Rattle.std.proofs.lemmas.Bool.{cases_lt, eqb-true}
use Rattle.std.proofs.lemmas.Bool.Decides.{nat_tests}
use Rattle.std.proofs.lemmas.List.Sums.{get_or-le-sum_by}
use Rattle.std.proofs.lemmas.Option.{get_or_from_slice_get, slice_get-get_or, slice_get_within}
use Rattle.hsr_taps.specs.Tallies.{is_at}

pub count_cons : {X : Type 0} (p : X → Bool) (x : X) (xs : List X) → count_by p (x ∷ xs) ≡ cond (p x) 1 0 + count_by p xs
count_cons p x xs = sum_by-cons (λ y. cond (p y) 1 0) x xs

-- none is such
none_cons : {X : Type 0} (p : X → Bool) (x : X) (xs : List X) (b : Bool) → p x ≡ b → (find p xs ≡ None → count_by p xs ≡ 0) → find p (x ∷ xs) ≡ None → count_by p (x ∷ xs) ≡ 0
none_cons p x xs true is rest none = let here : find p (x ∷ xs) ≡ Some x = ap (λ b. cond b (Some x) (find p xs)) is in absurd cc
none_cons p x xs false is rest none =
    count_cons p x xs ∙ ap (λ b. cond b 1 0 + count_by p xs) is ∙ ap (λ n. 0 + n) (rest (sym (ap (λ b. cond b (Some x) (find p xs)) is) ∙ none))

pub none_found : {X : Type 0} (p : X → Bool) (xs : List X) → find p xs ≡ None → count_by p xs ≡ 0
none_found p [] none = refl
none_found p (x ∷ xs) none = none_cons p x xs (p x) refl (λ e. none_found p xs e) none

-- one is
some_cons : {X : Type 0} (p : X → Bool) (x y : X) (xs : List X) (b : Bool) → p x ≡ b → (find p xs ≡ Some y → 0 < count_by p xs) → find p (x ∷ xs) ≡ Some y → 0 < count_by p (x ∷ xs)
some_cons p x y xs true is rest found = let count : count_by p (x ∷ xs) ≡ 1 + count_by p xs = count_cons p x xs ∙ ap (λ b. cond b 1 0 + count_by p xs) is in omega (arith, count)
some_cons p x y xs false is rest found =
    let more = rest (sym (ap (λ b. cond b (Some x) (find p xs)) is) ∙ found) in
    let count : count_by p (x ∷ xs) ≡ 0 + count_by p xs = count_cons p x xs ∙ ap (λ b. cond b 1 0 + count_by p xs) is in
    omega (arith, count, more)

pub some_found : {X : Type 0} (p : X → Bool) (xs : List X) (y : X) → find p xs ≡ Some y → 0 < count_by p xs
some_found p [] y found = absurd cc
some_found p (x ∷ xs) y found = some_cons p x y xs (p x) refl (λ e. some_found p xs y e) found

-- ---- one after the other

-- what is found behind a first one that isn't such
past_first : {X : Type 0} (p : X → Bool) (y : X) (xs : List X) (o : Option X) → p y ≡ false → find p xs ≡ o → find p (y ∷ xs) ≡ o
past_first p y xs o is rest = ap (λ b. cond b (Some y) (find p xs)) is ∙ rest

first_is_not : {X : Type 0} (p : X → Bool) (y : X) (xs : List X) (b : Bool) → p y ≡ b → find p (y ∷ xs) ≡ None → (p y ≡ false) × (find p xs ≡ None)
first_is_not p y xs true is none = let here : find p (y ∷ xs) ≡ Some y = ap (λ b. cond b (Some y) (find p xs)) is in absurd cc
first_is_not p y xs false is none = (is, sym (ap (λ b. cond b (Some y) (find p xs)) is) ∙ none)

pub find_none_more : {X : Type 0} (p : X → Bool) (xs : List X) (i : ℕ) (x d : X) → i < length xs → x ≡ get_or xs i d → p x ≡ false → find p (take i xs) ≡ None → find p (take (i + 1) xs) ≡ None
find_none_more p [] i x d below is fails none = absurd (omega (arith, below))
find_none_more p (y ∷ xs) zero x d below is fails none = ap (λ z. cond (p z) (Some z) None) (sym is) ∙ ap (λ b. cond b (Some x) None) fails
find_none_more p (y ∷ xs) (suc i) x d below is fails none =
    let next : suc i + 1 ≡ suc (i + 1) = omega arith in
    let first = first_is_not p y (take i xs) (p y) refl none in
    ap (λ n. find p (take n (y ∷ xs))) next ∙ past_first p y (take (i + 1) xs) None first.0 (find_none_more p xs i x d (omega (arith, below)) is fails first.1)

pub find_here : {X : Type 0} (p : X → Bool) (xs : List X) (i : ℕ) (x d : X) → i < length xs → x ≡ get_or xs i d → p x ≡ true → find p (take i xs) ≡ None → find p xs ≡ Some x
find_here p [] i x d below is holds none = absurd (omega (arith, below))
find_here p (y ∷ xs) zero x d below is holds none = ap (λ z. cond (p z) (Some z) (find p xs)) (sym is) ∙ ap (λ b. cond b (Some x) (find p xs)) holds
find_here p (y ∷ xs) (suc i) x d below is holds none =
    let first = first_is_not p y (take i xs) (p y) refl none in
    past_first p y xs (Some x) first.0 (find_here p xs i x d (omega (arith, below)) is holds first.1)

-- ---- sums

pub range_sum : (f : ℕ → ℕ) (n : ℕ) → sum_by f (range_with_len 0 (n + 1)) ≡ sum_by f (range_with_len 0 n) + f n
range_sum f n =
    ap (sum_by f) (sym (map-id (range_with_len 0 (n + 1)))) ∙ sum_by-map-range_with_len_more f (λ (k : ℕ). k) 0 n n (omega arith)
    ∙ ap (λ l. sum_by f l + f n) (map-id (range_with_len 0 n))

-- what is found tells whether a sum is 0
pub no_sum : {X : Type 0} (f : X → ℕ) (xs : List X) → find (λ x. nat_lt 0 (f x)) xs ≡ None → sum_by f xs ≡ 0
no_sum f [] none = refl
no_sum f (x ∷ xs) none =
    let first = first_is_not (λ y. nat_lt 0 (f y)) x xs (nat_lt 0 (f x)) refl none in
    let nothing = no_more 0 (f x) first.0 in
    let rest = no_sum f xs first.1 in
    let all = sum_by-cons f x xs in
    omega (arith, nothing, rest, all)
  where
    no_more : (m n : ℕ) → nat_lt m n ≡ false → n ≤ m
    no_more m n is = grind (arith, nat_tests)

pub some_sum : {X : Type 0} (f : X → ℕ) (xs : List X) (y : X) → find (λ x. nat_lt 0 (f x)) xs ≡ Some y → 0 < sum_by f xs
some_sum f [] y found = absurd cc
some_sum f (x ∷ xs) y found = by_first (λ e. some_sum f xs y e) (nat_lt 0 (f x)) refl
  where
    more : (m n : ℕ) → nat_lt m n ≡ true → m < n
    more m n is = grind (arith, nat_tests)

    by_first : (find (λ z. nat_lt 0 (f z)) xs ≡ Some y → 0 < sum_by f xs) → (b : Bool) → nat_lt 0 (f x) ≡ b → 0 < sum_by f (x ∷ xs)
    by_first later true is = let own = more 0 (f x) is in let all = sum_by-cons f x xs in omega (arith, own, all)
    by_first later false is =
        let rest = later (sym (ap (λ b. cond b (Some x) (find (λ z. nat_lt 0 (f z)) xs)) is) ∙ found) in
        let all = sum_by-cons f x xs in
        omega (arith, rest, all)

-- ---- lists that have something, or nothing

pub none_length : {X : Type 0} (xs : List X) (b : Bool) → b ≡ nat_eq (length xs) 0 → b ≡ true → length xs ≡ 0
none_length xs b is none = eqb-true (length xs) 0 (sym is ∙ none)

pub some_length : {X : Type 0} (xs : List X) (b : Bool) → b ≡ nat_eq (length xs) 0 → b ≡ false → 0 < length xs
some_length [] b is some = absurd cc
some_length (x ∷ xs) b is some = omega arith

-- ---- flags

pub count_map : {X : Type 0} (p : X → Bool) (xs : List X) → count_by (λ b. b) (map p xs) ≡ count_by p xs
count_map p [] = refl
count_map p (x ∷ xs) = count_cons (λ b. b) (p x) (map p xs) ∙ ap (λ n. cond (p x) 1 0 + n) (count_map p xs) ∙ sym (count_cons p x xs)

pub flag_counts : (flags : List Bool) (f : ℕ) → slice_get flags f ≡ Some true → 0 < count_by (λ b. b) flags
flag_counts flags f here =
    let below = slice_get_within flags f true here in
    let own : get_or flags f false ≡ true = get_or_from_slice_get flags f true false here in
    let one : ◌≡◌ {A = ℕ} (cond (get_or flags f false) 1 0) 1 = ap (λ b. cond b 1 0) own in
    let le = get_or-le-sum_by (λ b. cond b 1 0) flags f false below in
    omega (arith, one, le)

pub no_flag_counts : (flags : List Bool) → ((k : ℕ) (b : Bool) → slice_get flags k ≡ Some b → b ≡ false) → count_by (λ b. b) flags ≡ 0
no_flag_counts [] none = refl
no_flag_counts (b ∷ flags) none =
    count_cons (λ x. x) b flags ∙ ap (λ x. cond x 1 0 + count_by (λ y. y) flags) (none 0 b refl) ∙ ap (λ n. 0 + n) (no_flag_counts flags (λ k x at_k. none (suc k) x at_k))

-- ---- by number

pub range_more : {X : Type 0} (f : ℕ → X) (i : ℕ) (old new : List X) (own : X) → old ≡ map f (range_with_len 0 i) → new ≡ old ++ own ∷ [] → own ≡ f i → new ≡ map f (range_with_len 0 (i + 1))
range_more f i old new own old_is new_is own_is =
    new_is ∙ ap (λ l. l ++ own ∷ []) old_is ∙ ap (λ x. map f (range_with_len 0 i) ++ x ∷ []) own_is ∙ sym (map-range_with_len_more f 0 i i (omega arith))

pub less_than : (k n : ℕ) → k < n → nat_lt k n ≡ true
less_than k n below = grind (arith, nat_tests)

pub not_less : (k n : ℕ) → n ≤ k → nat_lt k n ≡ false
not_less k n past = grind (arith, nat_tests)

past_all : (flags : List Bool) (k : ℕ) → length flags ≤ k → is_at flags k ≡ false
past_all [] k past = refl
past_all (b ∷ flags) zero past = absurd (omega (arith, past))
past_all (b ∷ flags) (suc k) past = past_all flags k (omega (arith, past))

within_all : (flags : List Bool) (k : ℕ) (b : Bool) → slice_get flags k ≡ Some b → is_at flags k ≡ b
within_all [] k b here = absurd cc
within_all (a ∷ flags) zero b here = cc
within_all (a ∷ flags) (suc k) b here = within_all flags k b here

in_place : (n i : ℕ) → i < n → i ≡ get_or (range_with_len 0 n) i 0
in_place n i below = let own = get_or-range_with_len 0 n i 0 below in omega (arith, own)

-- of the numbers below one, the first that is such
pub none_more_in_range : (p : ℕ → Bool) (n i : ℕ) → i < n → p i ≡ false → find p (take i (range_with_len 0 n)) ≡ None → find p (take (i + 1) (range_with_len 0 n)) ≡ None
none_more_in_range p n i below fails none =
    let long = length-range_with_len 0 n in
    find_none_more p (range_with_len 0 n) i i 0 (omega (arith, below, long)) (in_place n i below) fails none

pub here_in_range : (p : ℕ → Bool) (n i : ℕ) → i < n → p i ≡ true → find p (take i (range_with_len 0 n)) ≡ None → find p (range_with_len 0 n) ≡ Some i
here_in_range p n i below holds none =
    let long = length-range_with_len 0 n in
    find_here p (range_with_len 0 n) i i 0 (omega (arith, below, long)) (in_place n i below) holds none

pub none_in_range : (p : ℕ → Bool) (n i : ℕ) → n ≤ i → find p (take i (range_with_len 0 n)) ≡ None → find p (range_with_len 0 n) ≡ None
none_in_range p n i past none =
    let long = length-range_with_len 0 n in
    ap (find p) (sym (take_all i (range_with_len 0 n) (omega (arith, past, long)))) ∙ none

-- of so many, one
pub in_range : (f : ℕ → Bool) (n k : ℕ) → is_at (map f (range_with_len 0 n)) k ≡ (nat_lt k n && f k)
in_range f n k = by_case (cases_lt k n)
  where
    by_case : (k < n) ⊎ (n ≤ k) → is_at (map f (range_with_len 0 n)) k ≡ (nat_lt k n && f k)
    by_case (inl below) =
        let long = length-map-range_with_len f 0 n in
        let less : nat_lt k n ≡ true = less_than k n below in
        within_all (map f (range_with_len 0 n)) k (f k)
        (slice_get-get_or (map f (range_with_len 0 n)) k false (omega (arith, below, long)) ∙ ap Some (get_or-map-range_with_len f 0 n k k false below (omega arith)))
        ∙ sym (ap (λ b. b && f k) less)
    by_case (inr past) =
        let long = length-map-range_with_len f 0 n in
        let more : nat_lt k n ≡ false = not_less k n past in
        past_all (map f (range_with_len 0 n)) k (omega (arith, past, long)) ∙ sym (ap (λ b. b && f k) more)

pub filter_same : {X : Type 0} (p q : X → Bool) → ((x : X) → p x ≡ q x) → (xs : List X) → filter p xs ≡ filter q xs
filter_same p q same [] = refl
filter_same p q same (x ∷ xs) = ap (λ b. cond b (x ∷ filter p xs) (filter p xs)) (same x) ∙ ap (λ l. cond (q x) (x ∷ l) l) (filter_same p q same xs)
