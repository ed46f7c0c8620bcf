-- Blocks one behind the other, of which the last may lie over a part of the one before it.
use Rattle.std.proofs.Common.{ℕ, suc, ◌≡◌, ◌+◌, ◌-◌, ◌*◌, ◌<◌, ◌≤◌, ◌∙◌, ◌⊎◌, inl, inr, ◌&&◌, Bool, true, false, if◌then◌else◌, Some, None, Result, Ok, Err, List, [], ◌∷◌, ◌++◌, length, take, drop, slice_index, get_or-take, refl, sym, ap, arith}
use Rattle.std.proofs.lemmas.Bool.{and_parts, cases_lt}
use Rattle.std.proofs.lemmas.List.{append_assoc, append-nil, drop-drop, drop-take, drop_all, get_or-append-add, get_or-drop, get_or_append_left, length-append, length-drop, length-take-le, take-append-drop, take-take, take_all, take_at}
use Rattle.std.proofs.lemmas.List.Folds.{list_all-append}
use Rattle.std.specs.Char.{is_ascii_hexdigit}
use Rattle.std.specs.List.{list_all}
use Rattle.std.specs.Result.{result_ok}
use Rattle.hex.specs.Hex.{decode_pairs, encode_upper, pair_value, upper_digits}
use Rattle.hex.proofs.HexLemmas.{length-encode_with}
use Rattle.hex.proofs.Pairs.{cons_byte, decode_pairs-ok_pair}
use Rattle.hex.specs.declared.error.FromHexError.{FromHexError}
use Rattle.hsr_digits.proofs.HexDigits.{front_of, parts, split_all, unread}
use borrow.Rule.Slice.PartMut.{post_of, put_mid}
use lib.Lanes.{pick_l, put_chunk}
use Rattle.std.proofs.lemmas.Simd.{length-put_chunk, pick_l_whole, put_chunk_is}
use Rattle.std.specs.List.{range_with_len}
use Rattle.hsr_digits.proofs.Lanes.{stored}

-- ---- a list of which the rest is replaced

pub mid : {X : Type 0} (at : ℕ) (xs new : List X) → at ≤ length xs → put_mid at (length xs - at) xs new ≡ take at xs ++ new
mid at xs new fits =
    let none : post_of at (length xs - at) xs ≡ []
    = drop-drop (length xs - at) at xs ∙ drop_all (at + (length xs - at)) xs (omega arith) in
    rw (none, append-nil new) refl

pub mid_long : {X : Type 0} (at : ℕ) (xs new : List X) → at ≤ length xs → length new ≡ length xs - at
    → length (put_mid at (length xs - at) xs new) ≡ length xs
mid_long at xs new fits same =
    ap length (mid at xs new fits) ∙ length-append (take at xs) new ∙ omega (arith, length-take-le at xs fits, same)

-- some elements more
pub more_taken : {X : Type 0} (at n m : ℕ) (xs : List X) → m ≡ at + n → take at xs ++ take n (drop at xs) ≡ take m xs
more_taken at n m xs is =
    let front : take at (take m xs) ≡ take at xs = take-take at m xs (omega arith) in
    let back : drop at (take m xs) ≡ take n (drop at xs) = rw is (drop-take at n xs) in
    rw (sym front, sym back) (take-append-drop at (take m xs))

-- ---- writing

pub one_block_more : (octets digits new : List ℕ) (at m : ℕ) → m ≡ at + 16 → m ≤ length octets → length digits ≡ 2 * length octets
    → new ≡ encode_upper (take 16 (drop at octets)) ++ drop 32 (drop (2 * at) digits)
    → take (2 * at) digits ≡ encode_upper (take at octets)
    → take (2 * m) (put_mid (2 * at) (length digits - 2 * at) digits new) ≡ encode_upper (take m octets)
one_block_more octets digits new at m is fits long written before =
    let rest : List ℕ = drop 32 (drop (2 * at) digits) in
    let whole : encode_upper (take at octets) ++ encode_upper (take 16 (drop at octets)) ≡ encode_upper (take m octets)
    = sym (parts upper_digits (take at octets) (take 16 (drop at octets))) ∙ ap encode_upper (more_taken at 16 m octets is) in
    let count : length (encode_upper (take m octets)) ≡ 2 * m
    = length-encode_with upper_digits (take m octets) ∙ ap (λ (n : ℕ). 2 * n) (length-take-le m octets fits) in
    let put : put_mid (2 * at) (length digits - 2 * at) digits new ≡ encode_upper (take m octets) ++ rest
    = mid (2 * at) digits new (omega arith) ∙ rw (before, written) (sym (append_assoc (encode_upper (take at octets)) _ rest))
    ∙ ap (λ (l : List ℕ). l ++ rest) whole in
    ap (take (2 * m)) put ∙ take_at (encode_upper (take m octets)) rest (2 * m) count

pub last_block : (octets digits new : List ℕ) (last whole : ℕ) → last + 16 ≡ length octets → last ≤ whole → whole ≤ length octets
    → length digits ≡ 2 * length octets → length new ≡ length digits - 2 * last
    → new ≡ encode_upper (take 16 (drop last octets)) ++ drop 32 (drop (2 * last) digits)
    → take (2 * whole) digits ≡ encode_upper (take whole octets)
    → put_mid (2 * last) (length digits - 2 * last) digits new ≡ encode_upper octets
last_block octets digits new last whole is within fits long same written before =
    let kept = mid_long (2 * last) digits new (omega arith) same in
    let front : take (2 * last) digits ≡ encode_upper (take last octets)
    = sym (take-take (2 * last) (2 * whole) digits (omega arith)) ∙ ap (take (2 * last)) before ∙ front_of octets last whole within (omega arith) in
    let all = one_block_more octets digits new last (length octets) (omega arith) (omega arith) long written front in
    sym (take_all (2 * length octets) _ (omega (arith, kept))) ∙ all ∙ ap encode_upper (take_all (length octets) octets (omega arith))

-- what is written for a number of octets
digits_long : (n : ℕ) (octets digits : List ℕ) → length octets ≡ n → digits ≡ encode_upper octets → length digits ≡ 2 * n
digits_long n octets digits many is = ap length is ∙ length-encode_with upper_digits octets ∙ ap (λ (k : ℕ). 2 * k) many

-- the halves of a block, one behind the other
pub both_halves : (octets digits first second : List ℕ) → length octets ≡ 16 → 32 ≤ length digits
    → first ≡ encode_upper (take 8 octets) → second ≡ encode_upper (drop 8 octets)
    → put_chunk 16 (put_chunk 0 digits first) second ≡ encode_upper octets ++ drop 32 digits
both_halves octets digits first second long room front back =
    let one : length first ≡ 16 = digits_long 8 (take 8 octets) first (length-take-le 8 octets (omega (arith, long))) front in
    let two : length second ≡ 16 = digits_long 8 (drop 8 octets) second (length-drop 8 octets ∙ omega (arith, long)) back in
    stored digits first second room one two
    ∙ ap (λ (l : List ℕ). l ++ drop 32 digits)
    (rw (front, back) (sym (parts upper_digits (take 8 octets) (drop 8 octets)) ∙ ap encode_upper (take-append-drop 8 octets)))

-- the first 8 octets and the last 8, which may lie over one another
pub first_and_last : (octets digits first second : List ℕ) (last : ℕ) → last + 8 ≡ length octets → last ≤ 8 → length digits ≡ 2 * length octets
    → first ≡ encode_upper (take 8 octets) → second ≡ encode_upper (drop last octets)
    → put_chunk (2 * last) (put_chunk 0 digits first) second ≡ encode_upper octets
first_and_last octets digits first second last is within long front back =
    let one : length first ≡ 16 = digits_long 8 (take 8 octets) first (length-take-le 8 octets (omega (arith, is))) front in
    let two : length second ≡ 16 = digits_long 8 (drop last octets) second (length-drop last octets ∙ omega (arith, is)) back in
    let begun = put_chunk_is 0 digits first (omega (arith, one, is)) in
    let kept = length-put_chunk 0 digits first in
    let none : drop (length second) (drop (2 * last) (put_chunk 0 digits first)) ≡ []
    = drop-drop (length second) (2 * last) (put_chunk 0 digits first) ∙ drop_all (2 * last + length second) (put_chunk 0 digits first) (omega (arith, two, kept, is)) in
    let before : take (2 * last) (put_chunk 0 digits first) ≡ encode_upper (take last octets)
    = ap (take (2 * last)) begun ∙ sym (take-take (2 * last) 16 _ (omega arith))
    ∙ ap (take (2 * last)) (take_at first _ 16 one ∙ front) ∙ front_of octets last 8 within (omega (arith, is)) in
    put_chunk_is (2 * last) (put_chunk 0 digits first) second (omega (arith, two, kept, is))
    ∙ rw (none, append-nil second, before, back)
    (sym (parts upper_digits (take last octets) (drop last octets)) ∙ ap encode_upper (take-append-drop last octets))

-- two halves that are put together are the first and the last of them
pub joined : (first second : List ℕ) → length first ≡ 8 → length second ≡ 8 → pick_l 0 (first ++ second) (range_with_len 0 16) ≡ first ++ second
joined first second one two = pick_l_whole 0 (first ++ second) 16 (length-append first second ∙ omega (arith, one, two))

-- ---- reading

-- what the first n pairs of digits spell was read
abbrev pub PairsRead : List ℕ → List ℕ → ℕ → Type 0
PairsRead digits octets n =
    (j k : ℕ) → j < n → is_ascii_hexdigit (slice_index digits (2 * j)) ≡ true → is_ascii_hexdigit (slice_index digits (2 * j + 1)) ≡ true
    → pair_value (slice_index digits (2 * j)) (slice_index digits (2 * j + 1)) k ≡ Ok (slice_index octets j)

pub pairs_behind : (digits octets new : List ℕ) (at n m : ℕ) → at ≤ n → m ≡ at + 16 → m ≤ length octets
    → PairsRead digits octets n → PairsRead (drop (2 * at) digits) new 16
    → PairsRead digits (put_mid at (length octets - at) octets new) m
pairs_behind digits octets new at n m within is fits before read j k lt e f = go (cases_lt j at)
  where
    put : put_mid at (length octets - at) octets new ≡ take at octets ++ new
    put = mid at octets new (omega arith)

    long : length (take at octets) ≡ at
    long = length-take-le at octets (omega arith)

    go : (j < at) ⊎ (at ≤ j)
        → pair_value (slice_index digits (2 * j)) (slice_index digits (2 * j + 1)) k ≡ Ok (slice_index (put_mid at (length octets - at) octets new) j)
    go (inl front) =
        let same : slice_index (take at octets ++ new) j ≡ slice_index octets j
        = get_or_append_left (take at octets) new 0 j (omega (arith, long)) ∙ get_or-take at octets j 0 front in
        rw (put, same) (before j k (omega arith) e f)
    go (inr back) =
        let i : ℕ = j - at in
        let high : slice_index (drop (2 * at) digits) (2 * i) ≡ slice_index digits (2 * j)
        = get_or-drop (2 * at) digits (2 * i) 0 ∙ ap (slice_index digits) (omega arith) in
        let low : slice_index (drop (2 * at) digits) (2 * i + 1) ≡ slice_index digits (2 * j + 1)
        = get_or-drop (2 * at) digits (2 * i + 1) 0 ∙ ap (slice_index digits) (omega arith) in
        let there : slice_index (take at octets ++ new) j ≡ slice_index new i
        = ap (slice_index (take at octets ++ new)) (omega (arith, long)) ∙ get_or-append-add (take at octets) new i 0 in
        rw (put, there, sym high, sym low) (read i k (omega arith) (ap is_ascii_hexdigit high ∙ e) (ap is_ascii_hexdigit low ∙ f))

-- digits of a block more
pub seen_more : (digits : List ℕ) (x y : Bool) (at m : ℕ) → m ≡ at + 16
    → y ≡ (x && list_all is_ascii_hexdigit (take 32 (drop (2 * at) digits)))
    → x ≡ list_all is_ascii_hexdigit (take (2 * at) digits)
    → y ≡ list_all is_ascii_hexdigit (take (2 * m) digits)
seen_more digits x y at m is looked before =
    looked ∙ ap (λ t. t && list_all is_ascii_hexdigit (take 32 (drop (2 * at) digits))) before
    ∙ sym (list_all-append is_ascii_hexdigit (take (2 * at) digits) (take 32 (drop (2 * at) digits)))
    ∙ ap (list_all is_ascii_hexdigit) (more_taken (2 * at) 32 (2 * m) digits (omega arith))

-- digits that are looked at twice
pub seen_all : (digits : List ℕ) (x y : Bool) (last whole : ℕ) → last ≤ whole → 2 * last + 32 ≡ length digits
    → y ≡ (x && list_all is_ascii_hexdigit (take 32 (drop (2 * last) digits)))
    → x ≡ list_all is_ascii_hexdigit (take (2 * whole) digits)
    → y ≡ list_all is_ascii_hexdigit digits
seen_all digits x y last whole within long looked before =
    let rest : List ℕ = drop (2 * last) digits in
    let n : ℕ = 2 * whole - 2 * last in
    let some : take 32 rest ≡ rest = take_all 32 rest (omega (arith, length-drop (2 * last) digits)) in
    let front : take (2 * last) (take (2 * whole) digits) ≡ take (2 * last) digits = take-take (2 * last) (2 * whole) digits (omega arith) in
    let sum : 2 * last + n ≡ 2 * whole = omega arith in
    let back : drop (2 * last) (take (2 * whole) digits) ≡ take n rest
    = ap (λ (k : ℕ). drop (2 * last) (take k digits)) (sym sum) ∙ drop-take (2 * last) n digits in
    let x_is : x ≡ (list_all is_ascii_hexdigit (take (2 * last) digits) && list_all is_ascii_hexdigit (take n rest))
    = before ∙ split_all (take (2 * whole) digits) (2 * last)
    ∙ rw (front, back) refl in
    looked ∙ rw (some, x_is, split_all rest n) (twice (list_all is_ascii_hexdigit (take (2 * last) digits)) _ _)
    ∙ ap (λ t. list_all is_ascii_hexdigit (take (2 * last) digits) && t) (sym (split_all rest n)) ∙ sym (split_all digits (2 * last))
  where
    twice : (a b c : Bool) → ((a && b) && (b && c)) ≡ (a && (b && c))
    twice true true c = refl
    twice true false c = refl
    twice false b c = refl

-- without the first pair
read_behind : (o a b : ℕ) (os rest : List ℕ) → PairsRead (a ∷ b ∷ rest) (o ∷ os) (length (o ∷ os)) → PairsRead rest os (length os)
read_behind o a b os rest read j k lt e f =
    let two : 2 * suc j ≡ suc (suc (2 * j)) = omega arith in
    let three : 2 * suc j + 1 ≡ suc (suc (2 * j + 1)) = omega arith in
    let high : slice_index (a ∷ b ∷ rest) (2 * suc j) ≡ slice_index rest (2 * j) = ap (slice_index (a ∷ b ∷ rest)) two in
    let low : slice_index (a ∷ b ∷ rest) (2 * suc j + 1) ≡ slice_index rest (2 * j + 1) = ap (slice_index (a ∷ b ∷ rest)) three in
    rw (high, low) at (read (suc j) k (omega arith) (ap is_ascii_hexdigit high ∙ e) (ap is_ascii_hexdigit low ∙ f))

one_before : (o : ℕ) (os : List ℕ) (r : Result (List ℕ) FromHexError) → result_ok r ≡ Some os → result_ok (cons_byte o r) ≡ Some (o ∷ os)
one_before o os (Ok xs) e = let same : xs ≡ os = cc in ap (λ (l : List ℕ). Some (o ∷ l)) same
one_before o os (Err x) e = absurd (cc)

all_read : (octets digits : List ℕ) (i : ℕ) → length digits ≡ 2 * length octets → list_all is_ascii_hexdigit digits ≡ true
    → PairsRead digits octets (length octets) → result_ok (decode_pairs i digits) ≡ Some octets
unfolding decode_pairs
all_read [] [] i long all read = refl
all_read [] (a ∷ rest) i long all read = absurd (omega (arith, long))
all_read (o ∷ os) [] i long all read = absurd (omega (arith, long))
all_read (o ∷ os) (a ∷ []) i long all read = absurd (omega (arith, long))
all_read (o ∷ os) (a ∷ b ∷ rest) i long all read =
    let first = and_parts (is_ascii_hexdigit a) (list_all is_ascii_hexdigit (b ∷ rest)) all in
    let second = and_parts (is_ascii_hexdigit b) (list_all is_ascii_hexdigit rest) first.1 in
    let pair = ap result_ok (decode_pairs-ok_pair i a b o rest (read 0 i (omega arith) first.0 second.0)) in
    pair ∙ one_before o os (decode_pairs (i + 2) rest) (all_read os rest (i + 2) (omega (arith, long)) second.1 (read_behind o a b os rest read))

pub finished : (digits octets : List ℕ) (good : Bool) → length digits ≡ 2 * length octets → good ≡ list_all is_ascii_hexdigit digits
    → PairsRead digits octets (length octets) → (if good then Some octets else None) ≡ result_ok (decode_pairs 0 digits)
finished digits octets true long is read = sym (all_read octets digits 0 long (sym is) read)
finished digits octets false long is read = sym (unread (length octets) 0 digits long (sym is))
