-- The latest heard, kept step by step.
use Rattle.std.proofs.Common.{◌≡◌, ℕ, zero, suc, Bool, true, false, cond, not, ◌&&◌, ◌||◌, List, [], ◌∷◌, ◌++◌, filter, take, ap, refl, ◌∙◌, subst, append_assoc, append-nil}
use Rattle.std.specs.Prelude.{fold, reverse}
use Rattle.std.specs.List.{list_any}
use Rattle.std.proofs.lemmas.Slice.Eq.{bytes_eq-Decides}
use Rattle.std.proofs.lemmas.List.{reverse-append}
use Rattle.hsr_frame.specs.Address.{is_same_address}
use Rattle.hsr_tables.specs.Known.{latest_heard, latest_of_each, others, put_first}

-- one that passes both tests
pub any-filter : {X : Type 0} (p q : X → Bool) (xs : List X) → list_any p (filter q xs) ≡ list_any (λ x. q x && p x) xs
any-filter p q [] = refl
any-filter p q (x ∷ xs) =
    elim (q x) as (λ b. list_any p (cond b (x ∷ filter q xs) (filter q xs)) ≡ ((b && p x) || list_any (λ y. q y && p y) xs)) [
      | true ↦ ap (λ r. p x || r) (any-filter p q xs)
      | false ↦ any-filter p q xs
    ]

-- what each step keeps holds over all that was heard, the latest first
pub fold_keeps : {T X : Type 0} (step : T → X → T) (P : T → List X → Type 0) → ((t : T) (past : List X) (x : X) → P t past → P (step t x) (x ∷ past))
    → (xs : List X) (t : T) (past : List X) → P t past → P (fold step t xs) (reverse xs ++ past)
fold_keeps step P keeps [] t past p = p
fold_keeps step P keeps (x ∷ xs) t past p =
    rw (reverse-append (x ∷ []) xs, append_assoc (reverse xs) (x ∷ []) past) (fold_keeps step P keeps xs (step t x) (x ∷ past) (keeps t past x p))

-- the same from the start
pub fold_stands : {T X : Type 0} (step : T → X → T) (P : T → List X → Type 0) → ((t : T) (past : List X) (x : X) → P t past → P (step t x) (x ∷ past))
    → (start : T) → P start [] → (xs : List X) → P (fold step start xs) (reverse xs)
fold_stands step P keeps start p xs = subst (λ past. P (fold step start xs) past) (append-nil (reverse xs)) (fold_keeps step P keeps xs start [] p)

pub same-equal : (a b : List ℕ) → is_same_address a b ≡ true → a ≡ b
same-equal a b h = (bytes_eq-Decides a b).0 h

pub same-refl : (a : List ℕ) → is_same_address a a ≡ true
same-refl a = (bytes_eq-Decides a a).1 refl

pub same-other : (a b : List ℕ) → is_same_address a b ≡ false → is_same_address b a ≡ false
same-other a b h = by_case (is_same_address b a) refl
  where
    by_case : (t : Bool) → is_same_address b a ≡ t → t ≡ false
    by_case true e = absurd (let one = same-equal b a e in let two = ap (λ x. is_same_address a x) one ∙ same-refl a in cc)
    by_case false e = refl

-- nothing of the address
abbrev pub NoneOf : {X : Type 0} → (X → List ℕ) → List ℕ → List X → Type 0
NoneOf mac_of mac [] = Unit {0}
NoneOf mac_of mac (x ∷ xs) = (is_same_address (mac_of x) mac ≡ false) × NoneOf mac_of mac xs

-- each address once
abbrev pub Apart : {X : Type 0} → (X → List ℕ) → List X → Type 0
Apart mac_of [] = Unit {0}
Apart mac_of (x ∷ xs) = NoneOf mac_of (mac_of x) xs × Apart mac_of xs

others_same : {X : Type 0} (mac_of : X → List ℕ) (mac : List ℕ) (xs : List X) → NoneOf mac_of mac xs → others mac_of mac xs ≡ xs
others_same mac_of mac [] n = refl
others_same mac_of mac (x ∷ xs) n = rw n.0 (ap (λ ys. x ∷ ys) (others_same mac_of mac xs n.1))

pub NoneOf-take : {X : Type 0} (mac_of : X → List ℕ) (mac : List ℕ) (k : ℕ) (xs : List X) → NoneOf mac_of mac xs → NoneOf mac_of mac (take k xs)
NoneOf-take mac_of mac zero xs n = tt
NoneOf-take mac_of mac (suc k) [] n = tt
NoneOf-take mac_of mac (suc k) (x ∷ xs) n = (n.0, NoneOf-take mac_of mac k xs n.1)

NoneOf-others : {X : Type 0} (mac_of : X → List ℕ) (mac other : List ℕ) (xs : List X) → NoneOf mac_of mac xs → NoneOf mac_of mac (others mac_of other xs)
NoneOf-others mac_of mac other [] n = tt
NoneOf-others mac_of mac other (x ∷ xs) n =
    let rest : NoneOf mac_of mac (others mac_of other xs) = NoneOf-others mac_of mac other xs n.1 in
    elim (is_same_address (mac_of x) other) as (λ b. NoneOf mac_of mac (cond (not b) (x ∷ others mac_of other xs) (others mac_of other xs))) [ true ↦ rest | false ↦ (n.0, rest) ]

Apart-others : {X : Type 0} (mac_of : X → List ℕ) (mac : List ℕ) (xs : List X) → Apart mac_of xs → Apart mac_of (others mac_of mac xs)
Apart-others mac_of mac [] p = tt
Apart-others mac_of mac (x ∷ xs) p =
    let rest : Apart mac_of (others mac_of mac xs) = Apart-others mac_of mac xs p.1 in
    elim (is_same_address (mac_of x) mac) as (λ b. Apart mac_of (cond (not b) (x ∷ others mac_of mac xs) (others mac_of mac xs))) [ true ↦ rest | false ↦ (NoneOf-others mac_of (mac_of x) mac xs p.0, rest) ]

pub none_left : {X : Type 0} (mac_of : X → List ℕ) (mac : List ℕ) (xs : List X) → NoneOf mac_of mac (others mac_of mac xs)
none_left mac_of mac [] = tt
none_left {X} mac_of mac (x ∷ xs) = by_case (is_same_address (mac_of x) mac) refl (none_left mac_of mac xs)
  where
    by_case : (b : Bool) → is_same_address (mac_of x) mac ≡ b → NoneOf mac_of mac (others mac_of mac xs) → NoneOf mac_of mac (cond (not b) (x ∷ others mac_of mac xs) (others mac_of mac xs))
    by_case true e rest = rest
    by_case false e rest = (e, rest)

Apart-latest : {X : Type 0} (mac_of : X → List ℕ) (past : List X) → Apart mac_of (latest_of_each mac_of past)
Apart-latest mac_of [] = tt
Apart-latest mac_of (x ∷ past) = (none_left mac_of (mac_of x) (latest_of_each mac_of past), Apart-others mac_of (mac_of x) (latest_of_each mac_of past) (Apart-latest mac_of past))

take_twice : {X : Type 0} (j : ℕ) (ys : List X) → take j (take j ys) ≡ take j ys
take_twice zero ys = refl
take_twice (suc j) [] = refl
take_twice (suc j) (y ∷ ys) = ap (λ zs. y ∷ zs) (take_twice j ys)

-- of addresses that stand apart at most one goes, so one more is enough
take-others : {X : Type 0} (mac_of : X → List ℕ) (k : ℕ) (mac : List ℕ) (xs : List X) → Apart mac_of xs → take k (others mac_of mac (take (suc k) xs)) ≡ take k (others mac_of mac xs)
take-others mac_of k mac [] p = refl
take-others {X} mac_of k mac (x ∷ xs) p = by_case (is_same_address (mac_of x) mac) refl k (λ j. take-others mac_of j mac xs p.1)
  where
    by_case : (b : Bool) → is_same_address (mac_of x) mac ≡ b → (j : ℕ) → ((i : ℕ) → take i (others mac_of mac (take (suc i) xs)) ≡ take i (others mac_of mac xs))
        → take j (cond (not b) (x ∷ others mac_of mac (take j xs)) (others mac_of mac (take j xs))) ≡ take j (cond (not b) (x ∷ others mac_of mac xs) (others mac_of mac xs))
    by_case true e j rest =
        let none : NoneOf mac_of mac xs = subst (λ m. NoneOf mac_of m xs) (same-equal (mac_of x) mac e) p.0 in
        rw (others_same mac_of mac (take j xs) (NoneOf-take mac_of mac j xs none), others_same mac_of mac xs none) (take_twice j xs)
    by_case false e zero rest = refl
    by_case false e (suc j) rest = ap (λ ys. x ∷ ys) (rest j)

-- those behind the one that is put first
pub behind_first : {X : Type 0} (mac_of : X → List ℕ) (mac : List ℕ) (past : List X) → take 63 (others mac_of mac (latest_heard mac_of past)) ≡ take 63 (others mac_of mac (latest_of_each mac_of past))
behind_first mac_of mac past = take-others mac_of 63 mac (latest_of_each mac_of past) (Apart-latest mac_of past)

-- one more hearing
pub latest_heard-step : {X : Type 0} (mac_of : X → List ℕ) (x : X) (past : List X) → put_first mac_of x (latest_heard mac_of past) ≡ latest_heard mac_of (x ∷ past)
latest_heard-step mac_of x past = ap (λ ys. x ∷ ys) (behind_first mac_of (mac_of x) past)
