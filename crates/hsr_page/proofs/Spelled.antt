-- Texts as a syntax spells them.
use Rattle.std.proofs.Common.{◌≡◌, ℕ, ◌<◌, ◌/◌, ◌%◌, Bool, cond, true, false, List, [], ◌∷◌, ◌++◌, refl, sym, ap, ◌∙◌, arith, nat_lt, append_assoc, append-nil}
use Rattle.std.specs.Prelude.{codes, encode_utf8_all}
use Rattle.std.specs.Char.{encode_utf8}
use Rattle.std.specs.Fmt.{digit_glyph}
use Rattle.std.proofs.lemmas.Str.{encodes-append}
use Rattle.std.proofs.lemmas.Grind.{flat_map-append}
use Rattle.std.proofs.lemmas.Bool.Decides.{nat_tests}
use Rattle.hsr_page.specs.declared.spelling.Syntax.{Syntax}
use Rattle.hsr_page.specs.declared.spelling.Syntax.TheVariants.{Html, Json, Style}
use Rattle.hsr_page.specs.Hidden.{hex_number, high_digits, digit_of, seen, shown, shown_number}
use Rattle.hsr_page.specs.Spelling.{spelled, spelling}

pub encodes_of_append : (start xs ys : List ℕ) → (start ++ encode_utf8_all xs) ++ encode_utf8_all ys ≡ start ++ encode_utf8_all (xs ++ ys)
encodes_of_append start xs ys = append_assoc start (encode_utf8_all xs) (encode_utf8_all ys) ∙ ap (λ t. start ++ t) (sym (encodes-append xs ys))

-- ---- numbers put piece by piece

pub json_number : (start : List ℕ) (c : ℕ) → (start ++ codes "\\u") ++ encode_utf8_all (hex_number c) ≡ start ++ encode_utf8_all (codes "\\u" ++ hex_number c)
unfolding encode_utf8
json_number start c = encodes_of_append start (codes "\\u") (hex_number c)

pub style_number : (start : List ℕ) (c : ℕ) →
    ((start ++ codes "\\") ++ encode_utf8_all (hex_number c)) ++ codes " " ≡ start ++ encode_utf8_all (codes "\\" ++ hex_number c ++ codes " ")
unfolding encode_utf8
style_number start c =
    ap (λ t. t ++ codes " ") (encodes_of_append start (codes "\\") (hex_number c)) ∙ encodes_of_append start (codes "\\" ++ hex_number c) (codes " ")

pub quoted : (start text : List ℕ) → ((start ++ codes "\"") ++ encode_utf8_all text) ++ codes "\"" ≡ start ++ encode_utf8_all (34 ∷ text ++ 34 ∷ [])
unfolding encode_utf8
quoted start text = ap (λ t. t ++ codes "\"") (encodes_of_append start (codes "\"") text) ∙ encodes_of_append start (34 ∷ text) (codes "\"")

-- ---- a digit is spelled by itself

glyph_plain : (syntax : Syntax) (d : ℕ) → d < 16 → spelling syntax (digit_glyph true d) ≡ digit_glyph true d ∷ []
glyph_plain Html d small = grind (arith, nat_tests)
glyph_plain Json d small = grind (arith, nat_tests)
glyph_plain Style d small = grind (arith, nat_tests)

digit_plain : (syntax : Syntax) (c unit : ℕ) → spelling syntax (digit_of c unit) ≡ digit_of c unit ∷ []
digit_plain syntax c unit = let small : c / unit % 16 < 16 = omega arith in glyph_plain syntax (c / unit % 16) small

-- ---- texts in parts

pub spelled_append : (syntax : Syntax) (xs ys : List ℕ) → spelled syntax (xs ++ ys) ≡ spelled syntax xs ++ spelled syntax ys
unfolding spelled
spelled_append syntax xs ys = flat_map-append (spelling syntax) xs ys

pub spelled_one : (syntax : Syntax) (c : ℕ) → spelled syntax (c ∷ []) ≡ spelling syntax c
unfolding spelled
spelled_one syntax c = append-nil (spelling syntax c)

spelled_more : (syntax : Syntax) (c : ℕ) (cs : List ℕ) → spelled syntax (c ∷ cs) ≡ spelling syntax c ++ spelled syntax cs
unfolding spelled
spelled_more syntax c cs = refl

-- what is spelled by itself, before a text
plain_more : (syntax : Syntax) (c unit : ℕ) (cs : List ℕ) → spelled syntax (digit_of c unit ∷ cs) ≡ digit_of c unit ∷ spelled syntax cs
plain_more syntax c unit cs = spelled_more syntax (digit_of c unit) cs ∙ ap (λ t. t ++ spelled syntax cs) (digit_plain syntax c unit)

spelled_none : (syntax : Syntax) → spelled syntax [] ≡ []
unfolding spelled
spelled_none syntax = refl

spelled_low : (syntax : Syntax) (c : ℕ) → let low = digit_of c 0x1000 ∷ digit_of c 0x100 ∷ digit_of c 0x10 ∷ digit_of c 1 ∷ [] in spelled syntax low ≡ low
spelled_low syntax c =
    plain_more syntax c 0x1000 (digit_of c 0x100 ∷ digit_of c 0x10 ∷ digit_of c 1 ∷ []) ∙ ap (λ t. digit_of c 0x1000 ∷ t)
    (plain_more syntax c 0x100 (digit_of c 0x10 ∷ digit_of c 1 ∷ []) ∙ ap (λ t. digit_of c 0x100 ∷ t)
    (plain_more syntax c 0x10 (digit_of c 1 ∷ []) ∙ ap (λ t. digit_of c 0x10 ∷ t)
    (plain_more syntax c 1 [] ∙ ap (λ t. digit_of c 1 ∷ t) (spelled_none syntax))))

spelled_high : (syntax : Syntax) (c : ℕ) → spelled syntax (high_digits c) ≡ high_digits c
spelled_high syntax c = by (nat_lt c 0x1_0000) (nat_lt c 0x10_0000)
  where
    by : (short long : Bool) → let high = cond short [] (cond long (digit_of c 0x1_0000 ∷ []) (digit_of c 0x10_0000 ∷ digit_of c 0x1_0000 ∷ [])) in spelled syntax high ≡ high
    by true long = spelled_none syntax
    by false true = plain_more syntax c 0x1_0000 [] ∙ ap (λ t. digit_of c 0x1_0000 ∷ t) (spelled_none syntax)
    by false false =
        plain_more syntax c 0x10_0000 (digit_of c 0x1_0000 ∷ []) ∙ ap (λ t. digit_of c 0x10_0000 ∷ t)
        (plain_more syntax c 0x1_0000 [] ∙ ap (λ t. digit_of c 0x1_0000 ∷ t) (spelled_none syntax))

spelled_hex : (syntax : Syntax) (c : ℕ) → spelled syntax (hex_number c) ≡ hex_number c
unfolding hex_number
spelled_hex syntax c =
    let low = digit_of c 0x1000 ∷ digit_of c 0x100 ∷ digit_of c 0x10 ∷ digit_of c 1 ∷ [] in
    spelled_append syntax (high_digits c) low ∙ ap (λ t. t ++ spelled syntax low) (spelled_high syntax c) ∙ ap (λ t. high_digits c ++ t) (spelled_low syntax c)

-- ---- what is seen

-- a number between brackets, put piece by piece
pub number_shown : (syntax : Syntax) (start : List ℕ) (c : ℕ) →
    ((((start ++ encode_utf8_all (spelling syntax 0x27E8)) ++ encode_utf8_all (spelling syntax 85)) ++ encode_utf8_all (spelling syntax 43)) ++ encode_utf8_all (hex_number c))
    ++ encode_utf8_all (spelling syntax 0x27E9) ≡ start ++ encode_utf8_all (spelled syntax (shown_number c))
unfolding shown_number
number_shown syntax start c =
    let tail : spelled syntax (hex_number c ++ 0x27E9 ∷ []) ≡ hex_number c ++ spelling syntax 0x27E9
    = spelled_append syntax (hex_number c) (0x27E9 ∷ []) ∙ ap (λ t. t ++ spelled syntax (0x27E9 ∷ [])) (spelled_hex syntax c) ∙ ap (λ t. hex_number c ++ t) (spelled_one syntax 0x27E9) in
    let front : spelled syntax (0x27E8 ∷ 85 ∷ 43 ∷ hex_number c ++ 0x27E9 ∷ []) ≡ spelling syntax 0x27E8 ++ (spelling syntax 85 ++ (spelling syntax 43 ++ (hex_number c ++ spelling syntax 0x27E9)))
    = spelled_more syntax 0x27E8 (85 ∷ 43 ∷ hex_number c ++ 0x27E9 ∷ []) ∙ ap (λ t. spelling syntax 0x27E8 ++ t)
    (spelled_more syntax 85 (43 ∷ hex_number c ++ 0x27E9 ∷ []) ∙ ap (λ t. spelling syntax 85 ++ t)
    (spelled_more syntax 43 (hex_number c ++ 0x27E9 ∷ []) ∙ ap (λ t. spelling syntax 43 ++ t) tail)) in
    rw (front, encodes-append, encodes-append, encodes-append, encodes-append) (simp append_assoc)

-- no character yet, and one more
pub none_seen : (syntax : Syntax) (start : List ℕ) → start ≡ start ++ encode_utf8_all (spelled syntax (seen []))
unfolding seen spelled
none_seen syntax start = sym (append-nil start)

pub one_seen : (syntax : Syntax) (start cs : List ℕ) (c : ℕ) →
    (start ++ encode_utf8_all (spelled syntax (seen cs))) ++ encode_utf8_all (spelled syntax (shown c)) ≡ start ++ encode_utf8_all (spelled syntax (seen (cs ++ c ∷ [])))
unfolding seen
one_seen syntax start cs c =
    let e : seen (cs ++ c ∷ []) ≡ seen cs ++ shown c = flat_map-append shown cs (c ∷ []) ∙ ap (λ t. seen cs ++ t) (append-nil (shown c)) in
    encodes_of_append start (spelled syntax (seen cs)) (spelled syntax (shown c))
    ∙ ap (λ t. start ++ encode_utf8_all t) (sym (spelled_append syntax (seen cs) (shown c)) ∙ ap (spelled syntax) (sym e))
