-- The octets of words: none of them parts words or lines.
use Rattle.std.proofs.Common.{◌≡◌, ℕ, ◌/◌, ◌%◌, ◌^◌, ◌<◌, ◌==◌, ◌&&◌, nat_lt, Some, List, [], ◌∷◌, ◌++◌, slice_index, refl, arith, Bool, true, false, suc, rules}
use Rattle.std.proofs.lemmas.Bool.{and_from, and_left, and_parts}
use Rattle.std.proofs.lemmas.Bool.Decides.{nat_tests}
use Rattle.std.proofs.lemmas.Fmt.{digits_decimal}
use Rattle.std.proofs.lemmas.Str.Parse.{IsNumeralModel, numerals_by_fold}
use Rattle.std.specs.Prelude.{codes}
use Rattle.std.specs.Str.{all_ascii_digits, bytes_eq}
use Rattle.std.specs.Char.{is_ascii_digit}
use Rattle.std.specs.Fmt.{decimal}
use Rattle.hex.specs.Hex.{encode_upper, encode_with, hex_digit_value, upper_digits, IsBytes}
use Rattle.hex.proofs.HexLemmas.{IsDigits-upper_digits}
use Rattle.hsr_transcript_lines.specs.Readable.{Lacks}
use Rattle.hsr_transcript_lines.specs.Spelled.{octets_text}
use Rattle.hsr_transcript_lines.proofs.CutWords.{lacks_more}
use Rattle.hsr_text.specs.Words.{value_on}

-- each octet is a hyphen or above it
abbrev pub is_word : List ℕ → Bool
is_word [] = true
is_word (b ∷ bs) = nat_lt 44 b && is_word bs

pub lacks_word : (s : ℕ) (w : List ℕ) → s < 45 → is_word w ≡ true → Lacks s w
lacks_word s [] h k = tt
lacks_word s (b ∷ bs) h k =
    let parts = and_parts (nat_lt 44 b) (is_word bs) k in
    let above = parts.0 in
    (grind (arith, nat_tests, above), lacks_word s bs h parts.1)

pub word_more : (a b : List ℕ) → is_word a ≡ true → is_word b ≡ true → is_word (a ++ b) ≡ true
word_more [] b h k = k
word_more (x ∷ xs) b h k =
    let parts = and_parts (nat_lt 44 x) (is_word xs) h in
    and_from (nat_lt 44 x) (is_word (xs ++ b)) parts.0 (word_more xs b parts.1 k)

-- ---- numbers

pub own : IsNumeralModel (λ ds. all_ascii_digits ds ≡ true) (value_on 0)
own = numerals_by_fold _ (search rules) value_on (search rules)

digit_above : (c : ℕ) → is_ascii_digit c ≡ true → nat_lt 44 c ≡ true
digit_above c h = grind (arith, nat_tests, h)

word_digits : (ds : List ℕ) → all_ascii_digits ds ≡ true → is_word ds ≡ true
word_digits [] d = refl
word_digits (c ∷ cs) d =
    let parts = and_parts (is_ascii_digit c) (all_ascii_digits cs) d in
    and_from (nat_lt 44 c) (is_word cs) (digit_above c parts.0) (word_digits cs parts.1)

pub word_decimal : (n : ℕ) → n < 2 ^ 64 → is_word (decimal n) ≡ true
word_decimal n h = word_digits (decimal n) (digits_decimal own n h)

-- ---- octets

hex_above : (c d : ℕ) → hex_digit_value c ≡ Some d → nat_lt 44 c ≡ true
hex_above c d h = grind (arith, nat_tests)

pub word_hex : (xs : List ℕ) → IsBytes xs → is_word (encode_upper xs) ≡ true
unfolding encode_with
word_hex [] h = refl
word_hex (b ∷ bs) h =
    let byte : b < 256 = h 0 in
    let high = hex_above (slice_index upper_digits (b / 16)) (b / 16) (IsDigits-upper_digits (b / 16) (omega arith)) in
    let low = hex_above (slice_index upper_digits (b % 16)) (b % 16) (IsDigits-upper_digits (b % 16) (omega arith)) in
    and_from _ _ high (and_from _ _ low (word_hex bs (λ i. h (suc i))))

pub word_octets : (xs : List ℕ) → IsBytes xs → is_word (octets_text xs) ≡ true
word_octets [] h = refl
word_octets (b ∷ bs) h = word_hex (b ∷ bs) h

-- ---- words that are no hyphen

pub no_hyphen : (w : List ℕ) → Lacks 45 w → bytes_eq w (codes "-") ≡ false
no_hyphen [] h = refl
no_hyphen (b ∷ bs) h = and_left (b == 45) (bytes_eq bs []) h.0

-- ---- lines of words

pub line_more : (w more : List ℕ) → is_word w ≡ true → Lacks 10 more → Lacks 10 (w ++ 32 ∷ more)
line_more w more h k = lacks_more 10 w (32 ∷ more) (lacks_word 10 w (omega arith) h) (refl, k)

pub line_end : (w : List ℕ) → is_word w ≡ true → Lacks 10 w
line_end w h = lacks_word 10 w (omega arith) h
