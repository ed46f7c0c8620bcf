-- Digits in groups of three.
use Rattle.std.proofs.Common.{◌≡◌, ℕ, ◌+◌, ◌-◌, ◌/◌, ◌%◌, ◌<◌, List, [], ◌∷◌, ◌++◌, length, drop, slice_index, refl, ap, ◌∙◌, arith, add-one, append-nil, length-drop, drop-cons}
use Rattle.std.specs.Prelude.{codes, encode_utf8_all}
use Rattle.std.specs.Char.{encode_utf8}
use Rattle.std.proofs.lemmas.List.{drop_all}
use Rattle.hsr_page.specs.Numbers.{digit_before, grouped, grouped_digits, moment_text, thousandths}
use Rattle.hsr_page.proofs.Spelled.{encodes_of_append}

pub one_digit : (start digits : List ℕ) (i : ℕ) → i < length digits →
    (start ++ encode_utf8_all (digit_before (slice_index digits i) (length digits - 1 - i))) ++ encode_utf8_all (grouped_digits (drop (i + 1) digits))
    ≡ start ++ encode_utf8_all (grouped_digits (drop i digits))
one_digit start digits i below =
    let e : drop i digits ≡ slice_index digits i ∷ drop (i + 1) digits = rw (add-one, drop-cons digits i 0) refl in
    let n : length digits - 1 - i ≡ length (drop (i + 1) digits) = rw length-drop (omega arith) in
    rw (n, e) (encodes_of_append start (digit_before (slice_index digits i) (length (drop (i + 1) digits))) (grouped_digits (drop (i + 1) digits)))

pub no_digit : (start digits : List ℕ) (i : ℕ) → length digits ≡ i → start ++ encode_utf8_all (grouped_digits (drop i digits)) ≡ start
no_digit start digits i all =
    let none : drop i digits ≡ [] = drop_all i digits (omega arith) in
    rw none (append-nil start)

pub moment_put : (start : List ℕ) (us : ℕ) →
    ((start ++ encode_utf8_all (grouped (us / 1000))) ++ encode_utf8_all (thousandths (us % 1000))) ++ codes " ms" ≡ start ++ encode_utf8_all (moment_text us)
unfolding moment_text encode_utf8
moment_put start us =
    ap (λ t. t ++ codes " ms") (encodes_of_append start (grouped (us / 1000)) (thousandths (us % 1000)))
    ∙ encodes_of_append start (grouped (us / 1000) ++ thousandths (us % 1000)) (codes " ms")
