-- The text of an address is read as that address.
use Rattle.std.proofs.Common.{◌≡◌, ℕ, zero, suc, ◌≤◌, length, map, None, ◌/◌, ◌%◌, ◌<◌, nat_lt, Some, Ok, List, [], ◌∷◌, ◌++◌, ◌∙◌, refl, ap, ap₂, slice_index, arith, true, false}
use Rattle.std.proofs.lemmas.Bool.{and_from, and_right}
use Rattle.std.proofs.lemmas.Bool.Decides.{nat_tests}
use Rattle.std.proofs.lemmas.List.{map-append}
use Rattle.std.specs.Prelude.{codes}
use Rattle.std.specs.List.{AllByRecursion}
use Rattle.std.specs.Result.{result_ok}
use Rattle.std.specs.Str.{bytes_eq}
use Rattle.hsr_frame.specs.Address.{IsAddress, address_of, address_text, hex_digit, hex_digits, upper_digit, upper_text}
use Rattle.hsr_frame.proofs.Texts.{address_of-printed}
use Rattle.hsr_text.specs.Words.{cut, mac_text}
use Rattle.hsr_transcript_lines.specs.Parsed.{read_macs}
use Rattle.hsr_transcript_lines.specs.Readable.{Lacks}
use Rattle.hsr_transcript_lines.specs.Spelled.{spaced}
use Rattle.hsr_transcript_lines.proofs.CutWords.{cut_end, cut_word}
use Rattle.hsr_transcript_lines.proofs.WordTexts.{is_word, lacks_word, word_more}

-- ---- its letters are upper case

digit_upper : (n : ℕ) → n < 16 → upper_digit (hex_digit n) ≡ hex_digit n
digit_upper n h = grind (arith, nat_tests)

pair_upper : (n : ℕ) → n < 256 → upper_text (hex_digits n) ≡ hex_digits n
pair_upper n h = ap₂ (λ a b. a ∷ b ∷ []) (digit_upper (n / 16) (omega arith)) (digit_upper (n % 16) (omega arith))

upper_on : (n : ℕ) (more : List ℕ) → n < 256 → upper_text more ≡ more → upper_text (hex_digits n ++ 45 ∷ more) ≡ hex_digits n ++ 45 ∷ more
upper_on n more h e = map-append upper_digit (hex_digits n) (45 ∷ more) ∙ ap₂ (λ a b. a ++ 45 ∷ b) (pair_upper n h) e

text_upper : (mac : List ℕ) → IsAddress mac → upper_text (address_text mac) ≡ address_text mac
text_upper mac a =
    upper_on (slice_index mac 0) _ (a.each 0)
    (upper_on (slice_index mac 1) _ (a.each 1)
    (upper_on (slice_index mac 2) _ (a.each 2)
    (upper_on (slice_index mac 3) _ (a.each 3)
    (upper_on (slice_index mac 4) _ (a.each 4) (pair_upper (slice_index mac 5) (a.each 5))))))

pub mac_again : (mac : List ℕ) → IsAddress mac → address_of (mac_text mac) ≡ Ok mac
unfolding mac_text
mac_again mac a = address_of-printed (address_text mac) mac a (text_upper mac a)

pub mac_said : (mac : List ℕ) → IsAddress mac → result_ok (address_of (mac_text mac)) ≡ Some mac
mac_said mac a = ap result_ok (mac_again mac a)

-- ---- it is a word

digit_above : (n : ℕ) → nat_lt 44 (hex_digit n) ≡ true
digit_above n = grind (arith, nat_tests)

pair_word : (n : ℕ) → is_word (hex_digits n) ≡ true
pair_word n = and_from _ _ (digit_above (n / 16)) (and_from _ _ (digit_above (n % 16)) refl)

word_on : (n : ℕ) (more : List ℕ) → is_word more ≡ true → is_word (hex_digits n ++ 45 ∷ more) ≡ true
word_on n more h = word_more (hex_digits n) (45 ∷ more) (pair_word n) h

pub word_mac : (mac : List ℕ) → is_word (mac_text mac) ≡ true
unfolding mac_text
word_mac mac =
    let octet = λ (i : ℕ). slice_index mac i in
    let from_5 = hex_digits (octet 5) in
    let from_4 = hex_digits (octet 4) ++ 45 ∷ from_5 in
    let from_3 = hex_digits (octet 3) ++ 45 ∷ from_4 in
    let from_2 = hex_digits (octet 2) ++ 45 ∷ from_3 in
    let from_1 = hex_digits (octet 1) ++ 45 ∷ from_2 in
    word_on (octet 0) from_1 (word_on (octet 1) from_2 (word_on (octet 2) from_3 (word_on (octet 3) from_4 (word_on (octet 4) from_5 (pair_word (octet 5))))))

pub mac_lacks : (s : ℕ) (mac : List ℕ) → s < 45 → Lacks s (mac_text mac)
mac_lacks s mac h = lacks_word s (mac_text mac) h (word_mac mac)

-- its third octet is a hyphen
pub not_own : (mac : List ℕ) → bytes_eq (mac_text mac) (codes "own") ≡ false
unfolding mac_text
not_own mac = and_right _ _ (and_right _ _ refl)

-- addresses, one after another
pub macs_again : (n : ℕ) (mac : List ℕ) (macs : List (List ℕ)) → AllByRecursion IsAddress (mac ∷ macs) → length (mac ∷ macs) ≤ n
    → read_macs n (Some (spaced (mac_text mac) (map mac_text macs))) ≡ Some (mac ∷ macs)
unfolding read_macs
macs_again zero mac macs a h = absurd (omega arith)
macs_again (suc n) mac [] a h =
    let word : cut 32 (mac_text mac) ≡ (mac_text mac, None) = cut_end 32 (mac_text mac) (mac_lacks 32 mac (omega arith)) in
    rw (word, mac_again mac a.0) refl
macs_again (suc n) mac (next ∷ macs) a h =
    let rest = spaced (mac_text next) (map mac_text macs) in
    let word : cut 32 (spaced (mac_text mac) (map mac_text (next ∷ macs))) ≡ (mac_text mac, Some rest) = cut_word 32 (mac_text mac) rest (mac_lacks 32 mac (omega arith)) in
    rw (word, mac_again mac a.0, macs_again n next macs a.1 (omega arith)) refl
