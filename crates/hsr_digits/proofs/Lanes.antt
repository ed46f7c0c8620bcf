-- Vectors of 16 octets, lane by lane.
use Rattle.std.proofs.Common.{ℕ, suc, ◌≡◌, ◌+◌, ◌-◌, ◌*◌, ◌/◌, ◌%◌, ◌^◌, ◌<◌, ◌≤◌, ◌∙◌, ◌⊎◌, inl, inr, ◌&&◌, Bool, true, false, nat_le, bit_and, List, [], ◌∷◌, ◌++◌, length, map, replicate, take, drop, slice_index, refl, sym, ap, arith, subst}
use Rattle.std.proofs.Math.Bool.{and_assoc, and-true}
use Rattle.std.proofs.lemmas.Bool.{cases_lt}
use Rattle.std.proofs.lemmas.Bool.Decides.{nat_tests}
use Rattle.std.proofs.lemmas.Nat.{and_block, and_le_l, and_le_r, and_mask}
use Rattle.std.proofs.lemmas.List.{append_assoc, drop-drop, drop_at, get_or-append-add, get_or_append_left, take_at}
use Rattle.std.proofs.lemmas.Simd.{Each1-get_or, get_or-replicate, get_or-zip2, get_or_narrower, get_or_wider, pick_l-range_with_len, pick_l_whole, put_chunk_is, length-put_chunk, swz_l}
use Rattle.std.specs.Int.Bits.{and_lt}
use Rattle.std.specs.List.{list_all}
use Rattle.hsr_digits.specs.Values.{is_marked}
use Rattle.hsr_frame.proofs.UpTo.{UpTo, each_up_to}
use lib.Lanes.{Each1, chunk, digits_l, fold_l, number_l, pick_l, put_chunk, zip2}
use Rattle.hex.specs.Hex.{encode_upper, encode_with, upper_digits}
use lib.ListN.{get_or}
use mir.Syntax.{w8}

-- a vector of 16 at the places that another one tells, which are below 16
pub swizzled : (xs : List ℕ) (i : ℕ) (js : List ℕ) → i + length js ≤ 16 → Each1 (λ j. j < 16) js → swz_l w8 16 xs i js ≡ map (λ j. get_or xs j 0) js
swizzled xs i [] fits below = refl
swizzled xs i (j ∷ js) fits below =
    let first : i / 16 ≡ 0 = omega arith in
    let lower : nat_le 128 j ≡ false = grind (arith, nat_tests, below.0) in
    let same : 16 * 0 + j ≡ j = omega arith in
    rw (first, lower, same, swizzled xs (suc i) js (omega arith) below.1) refl

-- the high four bits of octets, and the low ones, are below 16
pub halved : (octets : List ℕ) → Each1 (λ o. o < 256) octets → Each1 (λ v. v < 16) (map (λ o. o / 16) octets)
halved [] all = tt
halved (o ∷ octets) all = (omega (arith, all.0), halved octets all.1)

pub masked : (octets : List ℕ) → map (λ o. bit_and o 15) octets ≡ map (λ o. o % 16) octets
masked [] = refl
masked (o ∷ octets) = rw (and_mask o 4, masked octets) refl

pub lowered : (octets : List ℕ) → Each1 (λ v. v < 16) (map (λ o. o % 16) octets)
lowered [] = tt
lowered (o ∷ octets) = (omega arith, lowered octets)

-- ---- what is written

-- the places of the first and of the second half, where two vectors are woven into one another
abbrev pub first_places : List ℕ
first_places = 0 ∷ 16 ∷ 1 ∷ 17 ∷ 2 ∷ 18 ∷ 3 ∷ 19 ∷ 4 ∷ 20 ∷ 5 ∷ 21 ∷ 6 ∷ 22 ∷ 7 ∷ 23 ∷ []

abbrev pub second_places : List ℕ
second_places = 8 ∷ 24 ∷ 9 ∷ 25 ∷ 10 ∷ 26 ∷ 11 ∷ 27 ∷ 12 ∷ 28 ∷ 13 ∷ 29 ∷ 14 ∷ 30 ∷ 15 ∷ 31 ∷ []

abbrev pub high : List ℕ → List ℕ
high octets = map (λ o. slice_index upper_digits (o / 16)) octets

abbrev pub low : List ℕ → List ℕ
low octets = map (λ o. slice_index upper_digits (o % 16)) octets

-- looked at for a list of 16 that is written out
pub woven_front : (octets : List ℕ) → length octets ≡ 16 → pick_l 0 (high octets ++ low octets) first_places ≡ encode_upper (take 8 octets)
unfolding encode_with
woven_front octets long =
    subst (λ (l : List ℕ). pick_l 0 (high l ++ low l) first_places ≡ encode_upper (take 8 l)) (pick_l_whole 0 octets 16 long) refl

pub woven_back : (octets : List ℕ) → length octets ≡ 16 → pick_l 0 (high octets ++ low octets) second_places ≡ encode_upper (drop 8 octets)
unfolding encode_with
woven_back octets long =
    subst (λ (l : List ℕ). pick_l 0 (high l ++ low l) second_places ≡ encode_upper (drop 8 l)) (pick_l_whole 0 octets 16 long) refl

-- two vectors that are stored one behind the other
pub stored : (digits first second : List ℕ) → 32 ≤ length digits → length first ≡ 16 → length second ≡ 16
    → put_chunk 16 (put_chunk 0 digits first) second ≡ (first ++ second) ++ drop 32 digits
stored digits first second room one two =
    let begun : put_chunk 0 digits first ≡ first ++ drop 16 digits
    = put_chunk_is 0 digits first (omega (arith, one)) ∙ ap (λ (n : ℕ). first ++ drop n digits) one in
    let long = length-put_chunk 0 digits first in
    let front : take 16 (first ++ drop 16 digits) ≡ first = take_at first (drop 16 digits) 16 one in
    let back : drop 16 (first ++ drop 16 digits) ≡ drop 16 digits = drop_at first (drop 16 digits) 16 one in
    let rest : drop (length second) (drop 16 digits) ≡ drop 32 digits = ap (λ (n : ℕ). drop n (drop 16 digits)) two ∙ drop-drop 16 16 digits in
    put_chunk_is 16 (put_chunk 0 digits first) second (omega (arith, long, two))
    ∙ rw (begun, front, back, rest) (sym (append_assoc first second (drop 32 digits)))

-- ---- lanes of digits

pub both_marked : (a b : ℕ) → a < 256 → b < 256 → is_marked (bit_and a b) ≡ (is_marked a && is_marked b)
both_marked a b one other = go (nat_le 240 a) refl (nat_le 240 b) refl
  where
    go : (x : Bool) → nat_le 240 a ≡ x → (y : Bool) → nat_le 240 b ≡ y → nat_le 240 (bit_and a b) ≡ (nat_le 240 a && nat_le 240 b)
    go false e y f = let below : nat_le 240 (bit_and a b) ≡ false = grind (arith, nat_tests, and_le_l a b, e) in rw (below, e) refl
    go true e false f = let below : nat_le 240 (bit_and a b) ≡ false = grind (arith, nat_tests, and_le_r a b, f) in rw (below, e, f) refl
    go true e true f =
        let first : 240 ≤ a = grind (arith, nat_tests, e) in
        let second : 240 ≤ b = grind (arith, nat_tests, f) in
        let a_is : 15 * 2 ^ 4 + (a - 240) ≡ a = omega arith in
        let b_is : 15 * 2 ^ 4 + (b - 240) ≡ b = omega arith in
        let parts = and_block 4 15 15 (a - 240) (b - 240) (omega arith) (omega arith) in
        let same : bit_and a b ≡ 15 * 2 ^ 4 + bit_and (a - 240) (b - 240) = rw (a_is, b_is) at parts in
        let above : 240 ≤ bit_and a b = rw same (omega arith) in
        let yes : nat_le 240 (bit_and a b) ≡ true = grind (arith, nat_tests, above) in
        rw (yes, e, f) refl

-- the bits that all share
pub shared : (a : ℕ) (xs : List ℕ) → a < 256 → Each1 (λ x. x < 256) xs → is_marked (fold_l bit_and a xs) ≡ (is_marked a && list_all is_marked xs)
shared a [] one all = sym (and-true (is_marked a))
shared a (x ∷ xs) one all =
    shared (bit_and a x) xs (and_lt 8 a x one all.0) all.1 ∙ ap (λ t. t && list_all is_marked xs) (both_marked a x one all.0)
    ∙ and_assoc (is_marked a) (is_marked x) (list_all is_marked xs)

-- ---- two lanes as one number

-- what two octets are, once they were multiplied
two_joined : (a b : ℕ) → a < 256 → b < 256 → (a + 256 * (b + 256 * 0)) * 4097 % 65536 / 256 ^ 1 % 256 ≡ (16 * a + b) % 256
two_joined a b one other = omega (arith, one, other)

pub joined_pairs : (lanes : List ℕ) → length lanes ≡ 16 → Each1 (λ v. v < 256) lanes → (j : ℕ) → j < 8
    → get_or (digits_l 256 16 (number_l 65536 (zip2 (λ a b. a * b % 65536) (digits_l 65536 8 (number_l 256 lanes)) (replicate 8 4097)))) (2 * j + 1) 0
    ≡ (16 * get_or lanes (2 * j) 0 + get_or lanes (2 * j + 1) 0) % 256
joined_pairs lanes long fits j lt =
    let first : 2 * j < length lanes = omega (arith, long, lt) in
    let second : 2 * j + 1 < length lanes = omega (arith, long, lt) in
    let both : 2 * j + 2 ≤ length lanes = omega (arith, long, lt) in
    let within : 2 * j + 1 < 16 = omega (arith, lt) in
    let one : 1 < 2 = omega arith in
    let words : List ℕ = digits_l 65536 8 (number_l 256 lanes) in
    let products : List ℕ = zip2 (λ a b. a * b % 65536) words (replicate 8 4097) in
    let a : ℕ = get_or lanes (2 * j) 0 in
    let b : ℕ = get_or lanes (2 * j + 1) 0 in
    let two : chunk (2 * j) 2 lanes ≡ a ∷ b ∷ [] = sym (pick_l-range_with_len 0 lanes (2 * j) 2 both) in
    let word : get_or words j 0 ≡ a + 256 * (b + 256 * 0) = get_or_wider 256 2 65536 8 lanes j refl fits lt ∙ ap (number_l 256) two in
    let times : get_or (replicate 8 4097) j 0 ≡ 4097 = get_or-replicate {A = ℕ} 8 j 4097 0 lt in
    let product : get_or products j 0 ≡ (a + 256 * (b + 256 * 0)) * 4097 % 65536
    = get_or-zip2 (λ a b. a * b % 65536) words (replicate 8 4097) j 0 0 0 lt lt
    ∙ ap (λ w. w * get_or (replicate 8 4097) j 0 % 65536) word ∙ ap (λ m. (a + 256 * (b + 256 * 0)) * m % 65536) times in
    get_or_narrower 65536 2 256 16 products j 1 refl (products_fit words (replicate 8 4097)) one within
    ∙ ap (λ p. p / 256 ^ 1 % 256) product
    ∙ two_joined a b (Each1-get_or (λ v. v < 256) lanes (2 * j) 0 first fits) (Each1-get_or (λ v. v < 256) lanes (2 * j + 1) 0 second fits)
  where
    products_fit : (xs ys : List ℕ) → Each1 (λ x. x < 65536) (zip2 (λ a b. a * b % 65536) xs ys)
    products_fit [] ys = tt
    products_fit (x ∷ xs) [] = tt
    products_fit (x ∷ xs) (y ∷ ys) = (omega arith, products_fit xs ys)

-- the second places of each two
abbrev pub odd_places : List ℕ
odd_places = 1 ∷ 3 ∷ 5 ∷ 7 ∷ 9 ∷ 11 ∷ 13 ∷ 15 ∷ 17 ∷ 19 ∷ 21 ∷ 23 ∷ 25 ∷ 27 ∷ 29 ∷ 31 ∷ []

abbrev both_of : List ℕ → ℕ → ℕ
both_of lanes j = 16 * get_or lanes (2 * j) 0 + get_or lanes (2 * j + 1) 0

abbrev raised : List ℕ → List ℕ
raised lanes = zip2 (λ a b. (a + b) % 256) (pick_l 0 lanes odd_places) (replicate 16 16)

raised_at : (lanes : List ℕ) (j : ℕ) → j < 16 → get_or (raised lanes) j 0 ≡ (get_or lanes (2 * j + 1) 0 + 16) % 256
unfolding UpTo
raised_at lanes j lt =
    each_up_to (λ i. get_or (raised lanes) i 0 ≡ (get_or lanes (2 * i + 1) 0 + 16) % 256) 16
    (refl, (refl, (refl, (refl, (refl, (refl, (refl, (refl, (refl, (refl, (refl, (refl, (refl, (refl, (refl, (refl, tt)))))))))))))))) j lt

-- two vectors of joined lanes, of which the second lanes of each two are kept
pub octets_joined : (first second one other : List ℕ) → length first ≡ 16 → length one ≡ 16
    → ((j : ℕ) → j < 8 → get_or one (2 * j + 1) 0 ≡ both_of first j % 256) → ((j : ℕ) → j < 8 → get_or other (2 * j + 1) 0 ≡ both_of second j % 256)
    → (j : ℕ) → j < 16 → get_or (raised (one ++ other)) j 0 ≡ (both_of (first ++ second) j + 16) % 256
octets_joined first second one other long same of_first of_second j lt =
    raised_at (one ++ other) j lt ∙ ap (λ o. (o + 16) % 256) (go (cases_lt j 8)) ∙ sums (both_of (first ++ second) j)
  where
    sums : (n : ℕ) → (n % 256 + 16) % 256 ≡ (n + 16) % 256
    sums n = omega arith

    go : (j < 8) ⊎ (8 ≤ j) → get_or (one ++ other) (2 * j + 1) 0 ≡ both_of (first ++ second) j % 256
    go (inl front) =
        let here : 2 * j + 1 < length one = omega (arith, same, front) in
        let even : 2 * j < length first = omega (arith, long, front) in
        let odd : 2 * j + 1 < length first = omega (arith, long, front) in
        get_or_append_left one other 0 (2 * j + 1) here ∙ of_first j front
        ∙ rw (get_or_append_left first second 0 (2 * j) even, get_or_append_left first second 0 (2 * j + 1) odd) refl
    go (inr back) =
        let in_one : length one + (2 * (j - 8) + 1) ≡ 2 * j + 1 = omega (arith, same, back) in
        let even : length first + 2 * (j - 8) ≡ 2 * j = omega (arith, long, back) in
        let odd : length first + (2 * (j - 8) + 1) ≡ 2 * j + 1 = omega (arith, long, back) in
        let there : get_or (one ++ other) (2 * j + 1) 0 ≡ get_or other (2 * (j - 8) + 1) 0
        = ap (λ (n : ℕ). get_or (one ++ other) n 0) (sym in_one) ∙ get_or-append-add one other (2 * (j - 8) + 1) 0 in
        let high : get_or (first ++ second) (2 * j) 0 ≡ get_or second (2 * (j - 8)) 0
        = ap (λ (n : ℕ). get_or (first ++ second) n 0) (sym even) ∙ get_or-append-add first second (2 * (j - 8)) 0 in
        let low : get_or (first ++ second) (2 * j + 1) 0 ≡ get_or second (2 * (j - 8) + 1) 0
        = ap (λ (n : ℕ). get_or (first ++ second) n 0) (sym odd) ∙ get_or-append-add first second (2 * (j - 8) + 1) 0 in
        there ∙ of_second (j - 8) (omega (arith, lt, back)) ∙ rw (high, low) refl
