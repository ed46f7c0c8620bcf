-- Elements of lists, and lists of numbers that rise.
use Rattle.std.proofs.Common.{◌≡◌, ◌⊎◌, ℕ, zero, suc, ◌+◌, ◌<◌, ◌≤◌, Bool, true, false, cond, List, [], ◌∷◌, ◌++◌, length, take, count_by, filter, Option, Some, None, refl, sym, ap, ◌∙◌, subst, arith, inl, inr, ⊎_elim, slice_get}
use Rattle.std.specs.Prelude.{filter_map, Contains}
use Rattle.std.specs.List.{AllByRecursion, cons_option, range_with_len}
use Rattle.std.proofs.lemmas.Bool.{false_from_ne_true, false≢true}
use Rattle.std.proofs.lemmas.Option.{same_Some, slice_get-get_or}
use Rattle.hsr_run_laws.proofs.Lists.{count_more, zero_if}

-- ---- elements

-- an element of a list
abbrev pub IsIn : {X : Type 0} → X → List X → Type 0
IsIn x [] = ⊥
IsIn x (y ∷ ys) = (y ≡ x) ⊎ IsIn x ys

pub in_at : {X : Type 0} (xs : List X) (i : ℕ) (x : X) → slice_get xs i ≡ Some x → IsIn x xs
in_at [] i x is = absurd (cc)
in_at (y ∷ ys) zero x is = inl (same_Some y x is)
in_at (y ∷ ys) (suc i) x is = inr (in_at ys i x is)

pub in_parts : {X : Type 0} (xs ys : List X) (x : X) → IsIn x (xs ++ ys) → IsIn x xs ⊎ IsIn x ys
in_parts [] ys x h = inr h
in_parts (z ∷ zs) ys x h = ⊎_elim (λ e. inl (inl e)) (λ more. ⊎_elim (λ l. inl (inr l)) (λ r. inr r) (in_parts zs ys x more)) h

in_more : {X : Type 0} (o : Option X) (xs : List X) (x : X) → IsIn x xs → IsIn x (cons_option o xs)
in_more None xs x h = h
in_more (Some y) xs x h = inr h

in_this : {X : Type 0} (o : Option X) (xs : List X) (x : X) → o ≡ Some x → IsIn x (cons_option o xs)
in_this None xs x is = absurd (cc)
in_this (Some y) xs x is = inl (same_Some y x is)

in_either : {X : Type 0} (o : Option X) (xs : List X) (x : X) → IsIn x (cons_option o xs) → (o ≡ Some x) ⊎ IsIn x xs
in_either None xs x h = inr h
in_either (Some y) xs x h = ⊎_elim (λ e. inl (ap (λ z. Some z) e)) (λ more. inr more) h

pub in_mapped : {X Y : Type 0} (f : X → Option Y) (xs : List X) (x : X) (y : Y) → IsIn x xs → f x ≡ Some y → IsIn y (filter_map f xs)
in_mapped f [] x y h is = h
in_mapped f (z ∷ zs) x y h is = ⊎_elim (λ e. in_this (f z) (filter_map f zs) y (ap f e ∙ is)) (λ more. in_more (f z) (filter_map f zs) y (in_mapped f zs x y more is)) h

pub from_mapped : {X Y : Type 0} (f : X → Option Y) (xs : List X) (y : Y) → IsIn y (filter_map f xs) → (x : X) × IsIn x xs × (f x ≡ Some y)
from_mapped f [] y h = absurd h
from_mapped f (z ∷ zs) y h = ⊎_elim (λ e. (z, inl refl, e)) (λ more. let k = from_mapped f zs y more in (k.0, inr k.1, k.2)) (in_either (f z) (filter_map f zs) y h)

pub in_range : (a n i : ℕ) → i < n → IsIn (a + i) (range_with_len a n)
in_range a zero i below = absurd (omega arith)
in_range a (suc n) zero below = inl (omega arith)
in_range a (suc n) (suc i) below =
    let e : (a + 1) + i ≡ a + suc i = omega arith in
    let P : ℕ → Type 0 = λ m. IsIn m (range_with_len (a + 1) n) in
    inr (subst P e (in_range (a + 1) n i (omega arith)))

-- ---- numbers that rise

-- each is below those behind it
abbrev pub Rises : List ℕ → Type 0
Rises [] = Unit {0}
Rises (x ∷ xs) = AllByRecursion (λ y. x < y) xs × Rises xs

pub holds_at : {X : Type 0} (P : X → Type 0) (xs : List X) (i : ℕ) (x : X) → AllByRecursion P xs → slice_get xs i ≡ Some x → P x
holds_at P [] i x all is = absurd (cc)
holds_at P (y ∷ ys) zero x all is = subst P (same_Some y x is) all.0
holds_at P (y ∷ ys) (suc i) x all is = holds_at P ys i x all.1 is

-- no number stands twice
pub one_index : (xs : List ℕ) (i j x : ℕ) → Rises xs → slice_get xs i ≡ Some x → slice_get xs j ≡ Some x → i ≡ j
one_index [] i j x up a b = absurd (cc)
one_index (y ∷ ys) zero zero x up a b = refl
one_index (y ∷ ys) zero (suc j) x up a b = absurd (let e : y ≡ x = same_Some y x a in let lt : y < x = holds_at (λ z. y < z) ys j x up.0 b in omega (arith, e, lt))
one_index (y ∷ ys) (suc i) zero x up a b = absurd (let e : y ≡ x = same_Some y x b in let lt : y < x = holds_at (λ z. y < z) ys i x up.0 a in omega (arith, e, lt))
one_index (y ∷ ys) (suc i) (suc j) x up a b = ap suc (one_index ys i j x up.1 a b)

pub all_kept : {X : Type 0} (f : X → Bool) (P : X → Type 0) (xs : List X) → AllByRecursion P xs → AllByRecursion P (filter f xs)
all_kept f P [] all = tt
all_kept f P (x ∷ xs) all = of (f x) (all_kept f P xs all.1)
  where
    of : (b : Bool) → AllByRecursion P (filter f xs) → AllByRecursion P (cond b (x ∷ filter f xs) (filter f xs))
    of true kept = (all.0, kept)
    of false kept = kept

pub all_weaker : {X : Type 0} (P Q : X → Type 0) (xs : List X) → ((x : X) → P x → Q x) → AllByRecursion P xs → AllByRecursion Q xs
all_weaker P Q [] weaker all = tt
all_weaker P Q (x ∷ xs) weaker all = (weaker x all.0, all_weaker P Q xs weaker all.1)

pub rises_kept : (f : ℕ → Bool) (xs : List ℕ) → Rises xs → Rises (filter f xs)
rises_kept f [] up = tt
rises_kept f (x ∷ xs) up = of (f x) (rises_kept f xs up.1)
  where
    of : (b : Bool) → Rises (filter f xs) → Rises (cond b (x ∷ filter f xs) (filter f xs))
    of true kept = (all_kept f (λ y. x < y) xs up.0, kept)
    of false kept = kept

from_range : (a n m : ℕ) → m ≤ a → AllByRecursion (λ y. m ≤ y) (range_with_len a n)
from_range a zero m le = tt
from_range a (suc n) m le = (le, from_range (a + 1) n m (omega (arith, le)))

pub range_rises : (a n : ℕ) → Rises (range_with_len a n)
range_rises a zero = tt
range_rises a (suc n) = (all_weaker (λ y. a + 1 ≤ y) (λ y. a < y) (range_with_len (a + 1) n) (λ y le. omega (arith, le)) (from_range (a + 1) n (a + 1) (omega arith)), range_rises (a + 1) n)

-- ---- lists that are filtered

pub take_all : {X : Type 0} (xs : List X) → take (length xs) xs ≡ xs
take_all [] = refl
take_all (x ∷ xs) = ap (λ ys. x ∷ ys) (take_all xs)

pub contains_in : {X : Type 0} (xs : List X) (x : X) → Contains xs x → IsIn x xs
contains_in xs x h = in_at xs h.0 x (slice_get-get_or xs h.0 x h.1 ∙ ap (λ y. Some y) h.2)

pub in_contains : {X : Type 0} (xs : List X) (x : X) → IsIn x xs → Contains xs x
in_contains [] x h = absurd h
in_contains (y ∷ ys) x h = ⊎_elim (λ e. (0, omega arith, e)) (λ more. let k = in_contains ys x more in let below = k.1 in (suc k.0, omega (arith, below), k.2)) h

-- what is kept stood in the list, and passes the test
pub in_kept : {X : Type 0} (w : X → Bool) (xs : List X) (x : X) → IsIn x (filter w xs) → IsIn x xs × (w x ≡ true)
in_kept w [] x h = absurd h
in_kept w (y ∷ ys) x h = of (w y) refl (in_kept w ys x) h
  where
    of : (b : Bool) → w y ≡ b → (IsIn x (filter w ys) → IsIn x ys × (w x ≡ true)) → IsIn x (cond b (y ∷ filter w ys) (filter w ys)) → IsIn x (y ∷ ys) × (w x ≡ true)
    of true passes rest h = ⊎_elim (λ e. (inl e, ap w (sym e) ∙ passes)) (λ more. let k = rest more in (inr k.0, k.1)) h
    of false fails rest h = let k = rest h in (inr k.0, k.1)

-- where it stood
pub kept_index : {X : Type 0} (w : X → Bool) (xs : List X) (i : ℕ) (x : X) → slice_get (filter w xs) i ≡ Some x → (k : ℕ) × (slice_get xs k ≡ Some x)
kept_index w [] i x is = absurd (cc)
kept_index w (y ∷ ys) i x is = of (w y) i is (λ j at. let k = kept_index w ys j x at in (suc k.0, k.1))
  where
    of : (b : Bool) (i : ℕ) → slice_get (cond b (y ∷ filter w ys) (filter w ys)) i ≡ Some x → ((j : ℕ) → slice_get (filter w ys) j ≡ Some x → (k : ℕ) × (slice_get (y ∷ ys) k ≡ Some x)) → (k : ℕ) × (slice_get (y ∷ ys) k ≡ Some x)
    of true zero is rest = (0, is)
    of true (suc i) is rest = rest i is
    of false i is rest = rest i is

-- what is kept stays in its order
pub kept_indices : {X : Type 0} (w : X → Bool) (xs : List X) (i j : ℕ) (x z : X) → i < j → slice_get (filter w xs) i ≡ Some x → slice_get (filter w xs) j ≡ Some z →
    (k : ℕ) × (m : ℕ) × (k < m) × (slice_get xs k ≡ Some x) × (slice_get xs m ≡ Some z)
kept_indices w [] i j x z less is was = absurd (cc)
kept_indices w (y ∷ ys) i j x z less is was =
    of (w y) i j less is was (λ i j less is was. let k = kept_indices w ys i j x z less is was in let lt = k.2 in (suc k.0, suc k.1, omega (arith, lt), k.3, k.4))
  where
    of : (b : Bool) (i j : ℕ) → i < j → slice_get (cond b (y ∷ filter w ys) (filter w ys)) i ≡ Some x → slice_get (cond b (y ∷ filter w ys) (filter w ys)) j ≡ Some z →
        ((i j : ℕ) → i < j → slice_get (filter w ys) i ≡ Some x → slice_get (filter w ys) j ≡ Some z → (k : ℕ) × (m : ℕ) × (k < m) × (slice_get (y ∷ ys) k ≡ Some x) × (slice_get (y ∷ ys) m ≡ Some z)) →
        (k : ℕ) × (m : ℕ) × (k < m) × (slice_get (y ∷ ys) k ≡ Some x) × (slice_get (y ∷ ys) m ≡ Some z)
    of false i j less is was rest = rest i j less is was
    of true i zero less is was rest = absurd (omega (arith, less))
    of true zero (suc j) less is was rest = let m = kept_index w ys j z was in (0, suc m.0, omega arith, is, m.1)
    of true (suc i) (suc j) less is was rest = rest i j (omega (arith, less)) is was

-- as many pass a test, where each that does is kept
pub count_kept : {X : Type 0} (p w : X → Bool) → ((x : X) → p x ≡ true → w x ≡ true) → (xs : List X) → count_by p (filter w xs) ≡ count_by p xs
count_kept p w so [] = refl
count_kept p w so (x ∷ xs) = of (w x) refl (count_kept p w so xs) (count_more p x xs)
  where
    of : (b : Bool) → w x ≡ b → count_by p (filter w xs) ≡ count_by p xs → count_by p (x ∷ xs) ≡ cond (p x) 1 0 + count_by p xs → count_by p (cond b (x ∷ filter w xs) (filter w xs)) ≡ count_by p (x ∷ xs)
    of true passes rest whole = let more = count_more p x (filter w xs) in omega (arith, more, rest, whole)
    of false fails rest whole =
        let no = zero_if (p x) (false_from_ne_true (p x) (λ yes_it. false≢true (sym fails ∙ so x yes_it))) in
        omega (arith, no, rest, whole)
