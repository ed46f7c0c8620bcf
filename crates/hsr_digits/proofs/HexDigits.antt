-- Hexadecimal digits, read and written by arithmetic.
use Rattle.std.proofs.Common.{ℕ, zero, suc, ◌≡◌, ◌+◌, ◌-◌, ◌*◌, ◌<◌, ◌≤◌, ◌/◌, ◌%◌, ◌==◌, ◌&&◌, ◌∙◌, Bool, true, false, Option, None, Some, Result, Ok, Err, List, [], ◌∷◌, ◌++◌, length, take, drop, slice_index, slice_set, bit_and, refl, sym, ap, arith}
use Rattle.std.proofs.lemmas.Nat.{and_block, and_mask}
use Rattle.std.proofs.lemmas.Nat.Bits.{and_pow}
use Rattle.std.proofs.lemmas.Bool.Decides.{nat_tests}
use Rattle.std.proofs.lemmas.List.{append_assoc, append-nil, drop_all, drop_more, length-take-le, take-append-drop, take-take, take_all, take_at, take_more_set}
use Rattle.std.specs.Char.{is_ascii_hexdigit}
use Rattle.std.specs.List.{list_all}
use Rattle.std.proofs.lemmas.List.Folds.{list_all-append}
use Rattle.std.proofs.lemmas.List.Sums.{AllPass-from_list_all}
use Rattle.std.specs.Result.{result_ok}
use Rattle.std.specs.Int.{to_le_bytes, w16}
use Rattle.hex.specs.Hex.{decode_of, decode_pairs, encode_upper, encode_with, hex_digit_value, pair_value, upper_digits}
use Rattle.hex.specs.declared.error.FromHexError.{FromHexError}
use Rattle.hex.proofs.Pairs.{cons_byte, decode_pairs-ok_pair, drop-pair, encode_step}
use Rattle.hex.proofs.HexLemmas.{length-encode_with}
use Rattle.hsr_frame.proofs.UpTo.{UpTo, each_up_to}

-- a mask of two octets that are alike masks each octet
masked : (mask first second : ℕ) → mask < 256 → first < 256 → bit_and (second * 256 + first) (mask * 256 + mask) ≡ bit_and second mask * 256 + bit_and first mask
masked mask first second narrow room = and_block 8 second mask first mask room narrow

-- ---- writing

digit_is : (n : ℕ) → n < 16 → n + 48 + (n + 6) / 16 * 7 ≡ slice_index upper_digits n
unfolding UpTo
digit_is n lt =
    each_up_to (λ k. k + 48 + (k + 6) / 16 * 7 ≡ slice_index upper_digits k) 16
    (refl, (refl, (refl, (refl, (refl, (refl, (refl, (refl, (refl, (refl, (refl, (refl, (refl, (refl, (refl, (refl, tt)))))))))))))))) n lt

-- the same by kinds, as words of digits in upper case are looked at
pub low_digit : (n : ℕ) → n < 10 → n + 48 ≡ slice_index upper_digits n
low_digit n lt = let same : n + 48 ≡ n + 48 + (n + 6) / 16 * 7 = omega arith in same ∙ digit_is n (omega arith)

pub high_digit : (n : ℕ) → 10 ≤ n → n < 16 → n - 10 + 65 ≡ slice_index upper_digits n
high_digit n low lt = let same : n - 10 + 65 ≡ n + 48 + (n + 6) / 16 * 7 = omega arith in same ∙ digit_is n lt

-- what is added to both values at once is added to each
added : (a b : ℕ) → a < 16 → b < 16
    → b * 256 + a + 12336 + ((b + 6) / 16 % 2 * 16 * 256 + (a + 6) / 16 % 2 * 16) / 2 - ((b + 6) / 16 % 2 * 16 * 256 + (a + 6) / 16 % 2 * 16) / 2 / 8
    ≡ (b + 48 + (b + 6) / 16 * 7) * 256 + (a + 48 + (a + 6) / 16 * 7)
added a b high low = omega arith

two_octets : (v a b : ℕ) → v ≡ b * 256 + a → a < 256 → b < 256 → to_le_bytes w16 v ≡ a ∷ b ∷ []
two_octets v a b is first second =
    let x : v % 256 ≡ a = omega arith in
    let y : v / 256 % 256 ≡ b = omega arith in
    rw (x, y) refl

pub digits_written : (octet same : ℕ) → octet < 256 → same ≡ octet
    → to_le_bytes w16 (same * 4097 % 65536 / 16 + 12336 + bit_and (same * 4097 % 65536 / 16 + 1542) 4112 / 2 - bit_and (same * 4097 % 65536 / 16 + 1542) 4112 / 2 / 8)
    ≡ encode_upper (octet ∷ [])
unfolding encode_with
digits_written octet same room is =
    let high : octet / 16 < 16 = omega arith in
    let low : octet % 16 < 16 = omega arith in
    let values : octet * 4097 % 65536 / 16 ≡ octet % 16 * 256 + octet / 16 = omega arith in
    let six : octet % 16 * 256 + octet / 16 + 1542 ≡ (octet % 16 + 6) * 256 + (octet / 16 + 6) = omega arith in
    let first_letter : bit_and (octet / 16 + 6) 16 ≡ (octet / 16 + 6) / 16 % 2 * 16 = and_pow (octet / 16 + 6) 4 in
    let second_letter : bit_and (octet % 16 + 6) 16 ≡ (octet % 16 + 6) / 16 % 2 * 16 = and_pow (octet % 16 + 6) 4 in
    let letters : bit_and ((octet % 16 + 6) * 256 + (octet / 16 + 6)) 4112 ≡ (octet % 16 + 6) / 16 % 2 * 16 * 256 + (octet / 16 + 6) / 16 % 2 * 16
    = masked 16 (octet / 16 + 6) (octet % 16 + 6) (omega arith) (omega arith) ∙ rw (first_letter, second_letter) refl in
    rw (is, values, six, letters, added (octet / 16) (octet % 16) high low)
    (two_octets _ (octet / 16 + 48 + (octet / 16 + 6) / 16 * 7) (octet % 16 + 48 + (octet % 16 + 6) / 16 * 7) refl (omega arith) (omega arith)
    ∙ rw (digit_is (octet / 16) high, digit_is (octet % 16) low) refl)

pub writes_next : (octets digits pair : List ℕ) (i : ℕ) → i < length octets → 2 * i + 1 < length digits → pair ≡ encode_upper (slice_index octets i ∷ [])
    → take (2 * i) digits ++ encode_upper (drop i octets) ≡ encode_upper octets
    → take (2 * (i + 1)) (slice_set (slice_set digits (2 * i) (slice_index pair 0)) (2 * i + 1) (slice_index pair 1)) ++ encode_upper (drop (i + 1) octets)
    ≡ encode_upper octets
unfolding encode_with
writes_next octets digits pair i fits room is before =
    encode_step upper_digits octets digits i (slice_index pair 0) (slice_index pair 1) fits room (rw is refl) (rw is refl) before

-- octets that are written in two parts
pub parts : (table front back : List ℕ) → encode_with table (front ++ back) ≡ encode_with table front ++ encode_with table back
unfolding encode_with
parts table [] back = refl
parts table (octet ∷ front) back = rw (parts table front back) refl

pub front_of : (octets : List ℕ) (last whole : ℕ) → last ≤ whole → last ≤ length octets
    → take (2 * last) (encode_upper (take whole octets)) ≡ encode_upper (take last octets)
front_of octets last whole before fits =
    let rest : List ℕ = drop last (take whole octets) in
    let split : take last octets ++ rest ≡ take whole octets = ap (λ (l : List ℕ). l ++ rest) (sym (take-take last whole octets before)) ∙ take-append-drop last (take whole octets) in
    let long : length (encode_upper (take last octets)) ≡ 2 * last = length-encode_with upper_digits (take last octets) ∙ ap (λ (n : ℕ). 2 * n) (length-take-le last octets fits) in
    ap (λ (l : List ℕ). take (2 * last) (encode_upper l)) (sym split) ∙ ap (take (2 * last)) (parts upper_digits (take last octets) rest)
    ∙ take_at (encode_upper (take last octets)) (encode_upper rest) (2 * last) long

-- ---- reading

-- a digit among its kinds
pub value_is : (c : ℕ) → c < 256 → is_ascii_hexdigit c ≡ true → hex_digit_value c ≡ Some (c % 16 + c / 64 % 2 * 9)
value_is c room e = grind (arith, nat_tests, e)

pub other : (c : ℕ) → is_ascii_hexdigit c ≡ false → hex_digit_value c ≡ None
other c e = grind (arith, nat_tests, e)

-- a digit spells a number below 16
pub small : (c v : ℕ) → hex_digit_value c ≡ Some v → v < 16
small c v e = grind (arith, nat_tests, e)

-- two values below 16, each the low bits of a digit and 9 more for a letter, are one octet
one_octet : (p q s t : ℕ) → p + s * 9 < 16 → q + t * 9 < 16
    → (q * 256 + p + (t * 64 * 256 + s * 64) / 8 + (t * 64 * 256 + s * 64) / 8 / 8) * 4097 % 65536 / 256 ≡ (p + s * 9) * 16 + (q + t * 9)
one_octet p q s t high low = omega arith

pub pair_spells : (high low pair i : ℕ) → high < 256 → low < 256 → pair ≡ low * 256 + high
    → is_ascii_hexdigit high ≡ true → is_ascii_hexdigit low ≡ true
    → pair_value high low i ≡ Ok ((bit_and pair 3855 + bit_and pair 16448 / 8 + bit_and pair 16448 / 8 / 8) * 4097 % 65536 / 256)
pair_spells high low pair i h l both e f =
    let a = value_is high h e in
    let b = value_is low l f in
    let high_bits : bit_and high 15 ≡ high % 16 = and_mask high 4 in
    let low_bits : bit_and low 15 ≡ low % 16 = and_mask low 4 in
    let high_letter : bit_and high 64 ≡ high / 64 % 2 * 64 = and_pow high 6 in
    let low_letter : bit_and low 64 ≡ low / 64 % 2 * 64 = and_pow low 6 in
    let bits : bit_and pair 3855 ≡ low % 16 * 256 + high % 16 = rw both (masked 15 high low (omega arith) h ∙ rw (high_bits, low_bits) refl) in
    let letters : bit_and pair 16448 ≡ low / 64 % 2 * 64 * 256 + high / 64 % 2 * 64 = rw both (masked 64 high low (omega arith) h ∙ rw (high_letter, low_letter) refl) in
    let octet = one_octet (high % 16) (low % 16) (high / 64 % 2) (low / 64 % 2) (small high _ a) (small low _ b) in
    rw (a, b, bits, letters, octet) refl

-- ---- all of them

pub one_digit_more : (digits : List ℕ) (i : ℕ) → i < length digits
    → list_all is_ascii_hexdigit (drop i digits) ≡ (is_ascii_hexdigit (slice_index digits i) && list_all is_ascii_hexdigit (drop (i + 1) digits))
one_digit_more digits i fits = ap (list_all is_ascii_hexdigit) (drop_more digits i 0 fits)

-- in two parts
pub split_all : (digits : List ℕ) (i : ℕ) → list_all is_ascii_hexdigit digits ≡ (list_all is_ascii_hexdigit (take i digits) && list_all is_ascii_hexdigit (drop i digits))
split_all digits i = ap (list_all is_ascii_hexdigit) (sym (take-append-drop i digits)) ∙ list_all-append is_ascii_hexdigit (take i digits) (drop i digits)

-- ---- pairs

-- what was read, before what is read of the rest
abbrev pub behind : List ℕ → Option (List ℕ) → Option (List ℕ)
behind front (Some rest) = Some (front ++ rest)
behind front None = None

abbrev pub Reads : List ℕ → List ℕ → ℕ → Type 0
Reads digits octets i = result_ok (decode_pairs 0 digits) ≡ behind (take i octets) (result_ok (decode_pairs (2 * i) (drop (2 * i) digits)))

pub reads_first : (digits octets : List ℕ) → Reads digits octets 0
reads_first digits octets = go (result_ok (decode_pairs 0 digits))
  where
    go : (r : Option (List ℕ)) → r ≡ behind [] r
    go None = refl
    go (Some xs) = refl

-- a pair that is read goes behind what was read
one_more : (front : List ℕ) (v : ℕ) (r : Result (List ℕ) FromHexError) → behind front (result_ok (cons_byte v r)) ≡ behind (front ++ v ∷ []) (result_ok r)
one_more front v (Ok rest) = ap Some (sym (append_assoc front (v ∷ []) rest))
one_more front v (Err e) = refl

pub reads_next : (digits octets : List ℕ) (i v : ℕ) → 2 * i + 1 < length digits → i < length octets
    → list_all is_ascii_hexdigit digits ≡ true
    → ((k : ℕ) → is_ascii_hexdigit (slice_index digits (2 * i)) ≡ true → is_ascii_hexdigit (slice_index digits (2 * i + 1)) ≡ true
    → pair_value (slice_index digits (2 * i)) (slice_index digits (2 * i + 1)) k ≡ Ok v)
    → Reads digits octets i → Reads digits (slice_set octets i v) (i + 1)
reads_next digits octets i v fits room all value before =
    let rest : List ℕ = drop (2 * (i + 1)) digits in
    let two : 2 * i + 2 ≡ 2 * (i + 1) = omega arith in
    let each = AllPass-from_list_all is_ascii_hexdigit digits all in
    let read = value (2 * i) (each (2 * i) 0 (omega arith)) (each (2 * i + 1) 0 fits) in
    let pair = ap (λ l. result_ok (decode_pairs (2 * i) l)) (drop-pair digits i fits) ∙ ap result_ok (decode_pairs-ok_pair (2 * i) _ _ v rest read) in
    before ∙ ap (behind (take i octets)) pair ∙ one_more (take i octets) v (decode_pairs (2 * i + 2) rest)
    ∙ ap (λ (k : ℕ). behind (take i octets ++ v ∷ []) (result_ok (decode_pairs k rest))) two
    ∙ ap (λ (l : List ℕ). behind l (result_ok (decode_pairs (2 * (i + 1)) rest))) (sym (take_more_set octets i v room))

pub reads_all : (digits octets : List ℕ) (i : ℕ) → length octets ≤ i → length digits ≤ 2 * i → Reads digits octets i
    → result_ok (decode_pairs 0 digits) ≡ Some octets
unfolding decode_pairs
reads_all digits octets i last none before =
    before ∙ ap (λ l. behind (take i octets) (result_ok (decode_pairs (2 * i) l))) (drop_all (2 * i) digits none)
    ∙ ap Some (append-nil (take i octets) ∙ take_all i octets last)

-- ---- what isn't read

-- a pair that isn't read ends it
first_unread : (a b i : ℕ) (rest : List ℕ) → hex_digit_value a ≡ None → result_ok (decode_pairs i (a ∷ b ∷ rest)) ≡ None
unfolding decode_pairs
first_unread a b i rest e = rw e refl

second_unread : (a b i : ℕ) (rest : List ℕ) → hex_digit_value b ≡ None → result_ok (decode_pairs i (a ∷ b ∷ rest)) ≡ None
unfolding decode_pairs
second_unread a b i rest f = go (hex_digit_value a) refl
  where
    go : (o : Option ℕ) → hex_digit_value a ≡ o → result_ok (decode_pairs i (a ∷ b ∷ rest)) ≡ None
    go None e = rw e refl
    go (Some x) e = rw (e, f) refl

-- nor does one before what isn't read
rest_unread : (a b i : ℕ) (rest : List ℕ) → result_ok (decode_pairs (i + 2) rest) ≡ None → result_ok (decode_pairs i (a ∷ b ∷ rest)) ≡ None
unfolding decode_pairs
rest_unread a b i rest none = go (pair_value a b i) refl (decode_pairs (i + 2) rest) refl
  where
    go : (p : Result ℕ FromHexError) → pair_value a b i ≡ p → (r : Result (List ℕ) FromHexError) → decode_pairs (i + 2) rest ≡ r
        → result_ok (decode_pairs i (a ∷ b ∷ rest)) ≡ None
    go (Err e) p r is = rw p refl
    go (Ok v) p (Err e) is = rw (p, is) refl
    go (Ok v) p (Ok bytes) is = absurd (let other : None ≡ Some bytes = sym (rw is at none) in cc)

pub unread : (many i : ℕ) (digits : List ℕ) → length digits ≡ 2 * many → list_all is_ascii_hexdigit digits ≡ false
    → result_ok (decode_pairs i digits) ≡ None
unread many i [] long none = absurd (cc)
unread zero i (a ∷ rest) long none = absurd (omega arith)
unread (suc many) i (a ∷ []) long none = absurd (omega arith)
unread (suc many) i (a ∷ b ∷ rest) long none =
    go (is_ascii_hexdigit a) refl (is_ascii_hexdigit b) refl (unread many (i + 2) rest (omega arith))
  where
    go : (x : Bool) → is_ascii_hexdigit a ≡ x → (y : Bool) → is_ascii_hexdigit b ≡ y
        → (list_all is_ascii_hexdigit rest ≡ false → result_ok (decode_pairs (i + 2) rest) ≡ None) → result_ok (decode_pairs i (a ∷ b ∷ rest)) ≡ None
    go false e y f more = first_unread a b i rest (other a e)
    go true e false f more = second_unread a b i rest (other b f)
    go true e true f more = rest_unread a b i rest (more (rw (e, f) at none))

-- whole or not
pub none_spelled : (digits : List ℕ) → list_all is_ascii_hexdigit digits ≡ false → result_ok (decode_of digits) ≡ None
none_spelled digits none = go (length digits % 2 == 1) refl
  where
    go : (t : Bool) → (length digits % 2 == 1) ≡ t → result_ok (decode_of digits) ≡ None
    go true e = rw e refl
    go false e =
        let half : length digits ≡ 2 * (length digits / 2) = grind (arith, nat_tests, e) in
        rw e (unread (length digits / 2) 0 digits half none)
