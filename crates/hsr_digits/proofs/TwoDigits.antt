-- A character as a lane, looked at for all 256 of them; and octets from the values of two digits each.
use Rattle.std.proofs.Common.{ℕ, zero, suc, ◌≡◌, ◌+◌, ◌-◌, ◌*◌, ◌/◌, ◌%◌, ◌<◌, ◌≤◌, ◌==◌, ◌∙◌, ◌&&◌, Bool, true, false, not, nat_lt, bit_and, if◌then◌else◌, Some, Ok, List, [], ◌∷◌, ◌++◌, length, map, take, drop, slice_index, refl, sym, ap, arith}
use Rattle.std.proofs.Math.Bool.{and_assoc}
use Rattle.std.proofs.lemmas.Bool.{and_parts, not-true}
use Rattle.std.proofs.lemmas.Bool.Decides.{nat_tests}
use Rattle.std.proofs.lemmas.Nat.{and_le_l}
use Rattle.std.proofs.lemmas.List.{drop-take, get_or-map, get_or-take, length-drop, length-map, length-take-le, map-append, take-append-drop, take-take}
use Rattle.std.proofs.lemmas.List.Folds.{list_all-append}
use Rattle.std.proofs.lemmas.Simd.{get_or-put_chunk_at, length-zip2}
use Rattle.std.specs.Char.{is_ascii_hexdigit}
use Rattle.std.specs.List.{list_all}
use Rattle.hex.specs.Hex.{hex_digit_value, pair_value}
use Rattle.hsr_digits.specs.Values.{is_marked, letter, marked, number}
use Rattle.hsr_digits.proofs.HexDigits.{value_is}
use Rattle.hsr_digits.proofs.Lanes.{both_marked}
use lib.Lanes.{Each1, put_chunk, zip2}
use lib.ListN.{get_or}

-- ---- what a character is worth

abbrev holds : (ℕ → Bool) → ℕ → Bool
holds p zero = true
holds p (suc n) = p n && holds p n

each_holds : (p : ℕ → Bool) (n : ℕ) → holds p n ≡ true → (k : ℕ) → k < n → p k ≡ true
each_holds p zero all k lt = absurd (omega arith)
each_holds p (suc n) all k lt = choose (k == n) refl (each_holds p n (and_parts (p n) (holds p n) all).1)
  where
    choose : (y : Bool) → (k == n) ≡ y → ((i : ℕ) → i < n → p i ≡ true) → p k ≡ true
    choose true same before = let k_is : k ≡ n = grind (arith, nat_tests, same) in ap p k_is ∙ (and_parts (p n) (holds p n) all).0
    choose false other before = before k (grind (arith, nat_tests, other, lt))

-- a digit's lane is 240 and what it spells; another's is less
abbrev is_value : ℕ → Bool
is_value c = if is_ascii_hexdigit c then (240 + (c % 16 + c / 64 % 2 * 9)) == marked c else not (is_marked (marked c))

looked_at : (c : ℕ) → c < 256 → is_value c ≡ true
looked_at = each_holds is_value 256 refl

pub worth : (c : ℕ) → c < 256 → is_ascii_hexdigit c ≡ true → (hex_digit_value c ≡ Some (marked c - 240)) × (240 ≤ marked c)
worth c room e =
    let seen : ((240 + (c % 16 + c / 64 % 2 * 9)) == marked c) ≡ true = rw e at (looked_at c room) in
    let same : 240 + (c % 16 + c / 64 % 2 * 9) ≡ marked c = grind (arith, nat_tests, seen) in
    let value : c % 16 + c / 64 % 2 * 9 ≡ marked c - 240 = omega arith in
    (value_is c room e ∙ ap Some value, omega (arith, same))

pub marked_is_digit : (c : ℕ) → c < 256 → is_marked (marked c) ≡ is_ascii_hexdigit c
marked_is_digit c room = go (is_ascii_hexdigit c) refl
  where
    go : (x : Bool) → is_ascii_hexdigit c ≡ x → is_marked (marked c) ≡ is_ascii_hexdigit c
    go true e =
        let above : 240 ≤ marked c = (worth c room e).1 in
        let yes : is_marked (marked c) ≡ true = grind (arith, nat_tests, above) in
        yes ∙ sym e
    go false e =
        let seen : not (is_marked (marked c)) ≡ true = rw e at (looked_at c room) in
        not-true (is_marked (marked c)) seen ∙ sym e

-- lanes have 8 bits
marked_fits : (c : ℕ) → marked c < 256
marked_fits c = go (nat_lt (number c) (letter c)) refl
  where
    go : (x : Bool) → nat_lt (number c) (letter c) ≡ x → marked c < 256
    go true e = rw e (omega arith)
    go false e = rw e (omega arith)

each_marked_fits : (cs : List ℕ) → Each1 (λ v. v < 256) (map marked cs)
each_marked_fits [] = tt
each_marked_fits (c ∷ cs) = (marked_fits c, each_marked_fits cs)

and_fits : (xs ys : List ℕ) → Each1 (λ v. v < 256) xs → Each1 (λ v. v < 256) (zip2 bit_and xs ys)
and_fits [] ys all = tt
and_fits (x ∷ xs) [] all = tt
and_fits (x ∷ xs) (y ∷ ys) all = (le_lt (and_le_l x y) all.0, and_fits xs ys all.1)
  where
    le_lt : {a b c : ℕ} → a ≤ b → b < c → a < c
    le_lt e f = omega (arith, e, f)

pub pair_is : (a b k : ℕ) → a < 256 → b < 256 → is_ascii_hexdigit a ≡ true → is_ascii_hexdigit b ≡ true
    → pair_value a b k ≡ Ok ((16 * marked a + marked b + 16) % 256)
pair_is a b k high low e f =
    let one = worth a high e in
    let other = worth b low f in
    let x : ℕ = marked a - 240 in
    let y : ℕ = marked b - 240 in
    let fits_a = marked_fits a in
    let fits_b = marked_fits b in
    let octet : x * 16 + y ≡ (16 * marked a + marked b + 16) % 256 = omega (arith, one.1, other.1, fits_a, fits_b) in
    rw (one.0, other.0, octet) refl

-- ---- whether all are digits

marked_digits : (cs : List ℕ) → Each1 (λ c. c < 256) cs → list_all is_marked (map marked cs) ≡ list_all is_ascii_hexdigit cs
marked_digits [] all = refl
marked_digits (c ∷ cs) all = rw (marked_is_digit c all.0, marked_digits cs all.1) refl

shuffled : (w x y z : Bool) → ((w && x) && (y && z)) ≡ (w && (y && (x && z)))
shuffled false x y z = refl
shuffled true false false z = refl
shuffled true false true z = refl
shuffled true true y z = refl

all_marked : (xs ys : List ℕ) → length xs ≡ length ys → Each1 (λ v. v < 256) xs → Each1 (λ v. v < 256) ys
    → list_all is_marked (zip2 bit_and xs ys) ≡ (list_all is_marked xs && list_all is_marked ys)
all_marked [] [] same one other = refl
all_marked [] (y ∷ ys) same one other = absurd (omega (arith, same))
all_marked (x ∷ xs) [] same one other = absurd (omega (arith, same))
all_marked (x ∷ xs) (y ∷ ys) same one other =
    rw (both_marked x y one.0 other.0, all_marked xs ys (omega (arith, same)) one.1 other.1)
    (shuffled (is_marked x) (is_marked y) (list_all is_marked xs) (list_all is_marked ys) ∙ sym (and_assoc (is_marked x) _ _))

-- two vectors behind one another are the first 32 digits
pub block : (digits : List ℕ) → take 16 digits ++ take 16 (drop 16 digits) ≡ take 32 digits
block digits =
    ap (λ (l : List ℕ). l ++ take 16 (drop 16 digits)) (sym (take-take 16 32 digits le))
    ∙ ap (λ (l : List ℕ). take 16 (take 32 digits) ++ l) (sym (drop-take 16 16 digits)) ∙ take-append-drop 16 (take 32 digits)
  where
    le : 16 ≤ 32
    le = omega arith

pub block_seen : (digits seen : List ℕ) → 32 ≤ length digits → length seen ≡ 16 → Each1 (λ v. v < 256) seen
    → Each1 (λ c. c < 256) (take 16 digits) → Each1 (λ c. c < 256) (take 16 (drop 16 digits))
    → list_all is_marked (zip2 bit_and (zip2 bit_and seen (map marked (take 16 digits))) (map marked (take 16 (drop 16 digits))))
    ≡ (list_all is_marked seen && list_all is_ascii_hexdigit (take 32 digits))
block_seen digits seen room long fits front_fits back_fits =
    let front : List ℕ = map marked (take 16 digits) in
    let back : List ℕ = map marked (take 16 (drop 16 digits)) in
    let left : 16 ≤ length digits = omega (arith, room) in
    let front_long : length front ≡ 16 = length-map (take 16 digits) marked ∙ length-take-le 16 digits left in
    let rest : 16 ≤ length (drop 16 digits) = omega (arith, room, length-drop 16 digits) in
    let back_long : length back ≡ 16 = length-map (take 16 (drop 16 digits)) marked ∙ length-take-le 16 (drop 16 digits) rest in
    let together : length (zip2 bit_and seen front) ≡ length seen = length-zip2 bit_and seen front (long ∙ sym front_long) in
    let both : (list_all is_ascii_hexdigit (take 16 digits) && list_all is_ascii_hexdigit (take 16 (drop 16 digits))) ≡ list_all is_ascii_hexdigit (take 32 digits)
    = sym (list_all-append is_ascii_hexdigit (take 16 digits) (take 16 (drop 16 digits))) ∙ ap (list_all is_ascii_hexdigit) (block digits) in
    all_marked (zip2 bit_and seen front) back (together ∙ long ∙ sym back_long) (and_fits seen front fits) (each_marked_fits (take 16 (drop 16 digits)))
    ∙ rw (all_marked seen front (long ∙ sym front_long) fits (each_marked_fits (take 16 digits)), marked_digits (take 16 digits) front_fits, marked_digits (take 16 (drop 16 digits)) back_fits)
    (and_assoc (list_all is_marked seen) _ _ ∙ ap (λ t. list_all is_marked seen && t) both)

-- ---- octets

pub block_read : (octets digits new : List ℕ) → 16 ≤ length octets → 32 ≤ length digits → length new ≡ 16 → ((i : ℕ) → slice_index digits i < 256)
    → (let lanes = map marked (take 16 digits) ++ map marked (take 16 (drop 16 digits)) in
    (j : ℕ) → j < 16 → slice_index new j ≡ (16 * slice_index lanes (2 * j) + slice_index lanes (2 * j + 1) + 16) % 256)
    → (j k : ℕ) → j < 16
    → is_ascii_hexdigit (slice_index digits (2 * j)) ≡ true → is_ascii_hexdigit (slice_index digits (2 * j + 1)) ≡ true
    → pair_value (slice_index digits (2 * j)) (slice_index digits (2 * j + 1)) k ≡ Ok (slice_index (put_chunk 0 octets new) j)
block_read octets digits new room digits_room long each are j k lt e f =
    let same : 0 + j ≡ j = omega arith in
    let here : j < length new = omega (arith, long, lt) in
    let fits : 0 + length new ≤ length octets = omega (arith, long, room) in
    let put : slice_index (put_chunk 0 octets new) j ≡ get_or new j 0 = rw same at (get_or-put_chunk_at 0 octets new j 0 here fits) in
    let lanes : map marked (take 16 digits) ++ map marked (take 16 (drop 16 digits)) ≡ map marked (take 32 digits)
    = sym (map-append marked (take 16 digits) (take 16 (drop 16 digits))) ∙ ap (map marked) (block digits) in
    let first = lane_at (2 * j) (omega (arith, lt)) in
    let second = lane_at (2 * j + 1) (omega (arith, lt)) in
    let octet : get_or new j 0 ≡ (16 * marked (slice_index digits (2 * j)) + marked (slice_index digits (2 * j + 1)) + 16) % 256
    = are j lt ∙ rw (lanes, first, second) refl in
    pair_is (slice_index digits (2 * j)) (slice_index digits (2 * j + 1)) k (each (2 * j)) (each (2 * j + 1)) e f ∙ ap Ok (sym (put ∙ octet))
  where
    lane_at : (i : ℕ) → i < 32 → get_or (map marked (take 32 digits)) i 0 ≡ marked (slice_index digits i)
    lane_at i lt =
        get_or-map marked (take 32 digits) i 0 0 (omega (arith, lt, length-take-le 32 digits digits_room)) ∙ ap marked (get_or-take 32 digits i 0 lt)
