-- Octets that are read of digits in upper case are spelled by them.
use Rattle.std.proofs.Common.{◌≡◌, ℕ, ◌+◌, ◌-◌, ◌*◌, ◌/◌, ◌%◌, ◌<◌, ◌≤◌, ◌&&◌, nat_lt, Option, None, Some, Ok, Err, Result, List, [], ◌∷◌, ◌∙◌, slice_index, refl, sym, ap, ap₂, arith, true, inl, inr}
use Rattle.std.proofs.lemmas.Bool.{and_parts, cases_lt}
use Rattle.std.proofs.lemmas.Bool.Decides.{nat_tests}
use Rattle.hex.specs.Hex.{◌>>=◌, decode_of, decode_pairs, digit_or_error, encode_upper, encode_with, hex_digit_value, upper_digits}
use Rattle.hex.specs.declared.error.FromHexError.{FromHexError}
use Rattle.hex.proofs.HexLemmas.{decode_of-even, decode_of-ok}
use Rattle.hsr_digits.proofs.HexDigits.{high_digit, low_digit}
use Rattle.hsr_transcript_lines.specs.Exact.{is_upper}

small : (c v : ℕ) → hex_digit_value c ≡ Some v → v < 16
small c v e = grind (arith, nat_tests, e)

low : (c v : ℕ) → nat_lt c 97 ≡ true → hex_digit_value c ≡ Some v → v < 10 → v + 48 ≡ c
low c v h e k = grind (arith, nat_tests, h, e)

high : (c v : ℕ) → nat_lt c 97 ≡ true → hex_digit_value c ≡ Some v → 10 ≤ v → v - 10 + 65 ≡ c
high c v h e k = grind (arith, nat_tests, h, e)

digit_upper : (c v : ℕ) → nat_lt c 97 ≡ true → hex_digit_value c ≡ Some v → slice_index upper_digits v ≡ c
digit_upper c v h e = elim (cases_lt v 10) [
  | inl below ↦ sym (low_digit v below) ∙ low c v h e below
  | inr above ↦ sym (high_digit v above (small c v e)) ∙ high c v h e above
]

-- the digits of an octet that was read
pair_upper : (a b x y : ℕ) → nat_lt a 97 ≡ true → nat_lt b 97 ≡ true → hex_digit_value a ≡ Some x → hex_digit_value b ≡ Some y
    → (slice_index upper_digits ((x * 16 + y) / 16) ≡ a) × (slice_index upper_digits ((x * 16 + y) % 16) ≡ b)
pair_upper a b x y ha hb ea eb =
    let k = small b y eb in
    let h : (x * 16 + y) / 16 ≡ x = omega arith in
    let l : (x * 16 + y) % 16 ≡ y = omega arith in
    (ap (slice_index upper_digits) h ∙ digit_upper a x ha ea, ap (slice_index upper_digits) l ∙ digit_upper b y hb eb)

pairs_upper : (i : ℕ) (w xs : List ℕ) → decode_pairs i w ≡ Ok xs → is_upper w ≡ true → encode_upper xs ≡ w
unfolding decode_pairs encode_with
pairs_upper i [] xs e u = let is : [] ≡ xs = cc in ap encode_upper (sym is)
pairs_upper i (d ∷ []) xs e u = absurd (cc)
pairs_upper i (a ∷ b ∷ rest) xs e u =
    let first = and_parts (nat_lt a 97) (nat_lt b 97 && is_upper rest) u in
    let second = and_parts (nat_lt b 97) (is_upper rest) first.1 in
    go first.0 second.0 (hex_digit_value a) refl (hex_digit_value b) refl (decode_pairs (i + 2) rest) (λ ys f. pairs_upper (i + 2) rest ys f second.1) e
  where
    go : nat_lt a 97 ≡ true → nat_lt b 97 ≡ true → (o : Option ℕ) → hex_digit_value a ≡ o → (p : Option ℕ) → hex_digit_value b ≡ p
        → (r : Result (List ℕ) FromHexError) → ((ys : List ℕ) → r ≡ Ok ys → encode_upper ys ≡ rest)
        → ((digit_or_error a i o >>= λ h. digit_or_error b (i + 1) p >>= λ l. Ok (h * 16 + l)) >>= λ byte. r >>= λ bytes. Ok (byte ∷ bytes)) ≡ Ok xs → encode_upper xs ≡ a ∷ b ∷ rest
    go ha hb None ea p eb r more e = absurd (cc)
    go ha hb (Some x) ea None eb r more e = absurd (cc)
    go ha hb (Some x) ea (Some y) eb (Err f) more e = absurd (cc)
    go ha hb (Some x) ea (Some y) eb (Ok ys) more e =
        let is : (x * 16 + y) ∷ ys ≡ xs = cc in
        let pair = pair_upper a b x y ha hb ea eb in
        ap encode_upper (sym is) ∙ ap₂ (λ c d. c ∷ d ∷ encode_upper ys) pair.0 pair.1 ∙ ap (λ l. a ∷ b ∷ l) (more ys refl)

-- a whole word
pub decoded : (w xs : List ℕ) → decode_of w ≡ Ok xs → is_upper w ≡ true → encode_upper xs ≡ w
decoded w xs e u =
    let even = (decode_of-ok w xs e).0 in
    pairs_upper 0 w xs (sym (decode_of-even w even) ∙ e) u
