-- What is read of a string of JSON.
use Rattle.std.proofs.Common.{◌≡◌, ℕ, ◌+◌, ◌*◌, ◌/◌, ◌%◌, ◌<◌, ◌==◌, nat_lt, cond, Bool, true, false, List, [], ◌∷◌, ◌++◌, inl, inr, refl, ap, ◌∙◌, arith, append_assoc}
use Rattle.std.specs.Prelude.{codes, not}
use Rattle.std.specs.Char.{digit_value}
use Rattle.std.specs.Fmt.{digit_glyph}
use Rattle.std.specs.List.{list_all}
use Rattle.std.proofs.lemmas.Bool.Decides.{eqb_tells, nat_tests}
use Rattle.hsr_page.specs.Hidden.{digit_of, hex_number}
use Rattle.hsr_page.specs.Spelling.{is_numbered, json_spelling, json_string, spelled}
use Rattle.hsr_page.specs.declared.spelling.Syntax.TheVariants.{Json}
use Rattle.hsr_page.specs.Reading.{between, json_read_on, read_json}

-- ---- numbers

glyph_value : (d : ℕ) → d < 16 → digit_value (digit_glyph true d) ≡ d
glyph_value d small = grind (arith, nat_tests)

value_of : (c unit : ℕ) → digit_value (digit_of c unit) ≡ c / unit % 16
value_of c unit = let small : c / unit % 16 < 16 = omega arith in glyph_value (c / unit % 16) small

four_digits : (c : ℕ) → c < 0x1_0000 → 16 * (16 * (16 * (16 * 0 + c / 0x1000 % 16) + c / 0x100 % 16) + c / 0x10 % 16) + c / 1 % 16 ≡ c
four_digits c small = omega arith

numbered_small : (c : ℕ) → is_numbered c ≡ true → c < 0x1_0000
numbered_small c is = grind (arith, nat_tests)

joined : (c a b d e : ℕ) → c < 0x1_0000 → a ≡ c / 0x1000 % 16 → b ≡ c / 0x100 % 16 → d ≡ c / 0x10 % 16 → e ≡ c / 1 % 16 →
    16 * (16 * (16 * (16 * 0 + a) + b) + d) + e ≡ c
joined c a b d e small p q r s = rw (p, q, r, s) (four_digits c small)

number_read : (rest : List ℕ) (c : ℕ) → c < 0x1_0000 → json_read_on between ((codes "\\u" ++ hex_number c) ++ rest) ≡ c ∷ json_read_on between rest
unfolding hex_number
number_read rest c small =
    let short : nat_lt c 0x1_0000 ≡ true = grind (arith, nat_tests) in
    rw short (ap (λ n. n ∷ json_read_on between rest)
    (joined c _ _ _ _ small (value_of c 0x1000) (value_of c 0x100) (value_of c 0x10) (value_of c 1)))

-- ---- characters

-- a quote, a backslash, a number, or a character by itself
pub json_cases : (P : ℕ → List ℕ → Type 0) → P 34 (codes "\\\"") → P 92 (codes "\\\\") → ((c : ℕ) → c < 0x1_0000 → P c (codes "\\u" ++ hex_number c))
    → ((c : ℕ) → (c == 34) ≡ false → (c == 92) ≡ false → is_numbered c ≡ false → P c (c ∷ []))
    → (c : ℕ) → P c (json_spelling c)
json_cases P quote backslash number plain c =
    elim (eqb_tells c 34) [
      | inl a ↦ rw a.1 quote
      | inr a ↦ rw a.0 (
          elim (eqb_tells c 92) [ inl b ↦ rw b.1 backslash | inr b ↦ rw b.0 (by (is_numbered c) refl a.0 b.0) ])
    ]
  where
    by : (numbered : Bool) → is_numbered c ≡ numbered → (c == 34) ≡ false → (c == 92) ≡ false → P c (cond numbered (codes "\\u" ++ hex_number c) (c ∷ []))
    by true is a b = number c (numbered_small c is)
    by false is a b = plain c a b is

one_read : (rest : List ℕ) (c : ℕ) → json_read_on between (json_spelling c ++ rest) ≡ c ∷ json_read_on between rest
one_read rest =
    json_cases (λ c spelled. json_read_on between (spelled ++ rest) ≡ c ∷ json_read_on between rest) refl refl (number_read rest) (λ c a b is. rw (a, b) refl)

read_on : (text rest : List ℕ) → json_read_on between (spelled Json text ++ 34 ∷ rest) ≡ text
unfolding spelled
read_on [] rest = refl
read_on (c ∷ cs) rest =
    ap (λ t. json_read_on between t) (append_assoc (json_spelling c) (spelled Json cs) (34 ∷ rest))
    ∙ one_read (spelled Json cs ++ 34 ∷ rest) c ∙ ap (λ t. c ∷ t) (read_on cs rest)

pub json_read : (text rest : List ℕ) → read_json (json_string text ++ rest) ≡ text
unfolding json_string
json_read text rest = ap (λ t. json_read_on between t) (append_assoc (spelled Json text) (34 ∷ []) rest) ∙ read_on text rest

-- ---- no <

glyph_harmless : (d : ℕ) → d < 16 → not (digit_glyph true d == 60) ≡ true
glyph_harmless d small = grind (arith, nat_tests)

digit_harmless : (c unit : ℕ) → not (digit_of c unit == 60) ≡ true
digit_harmless c unit = let small : c / unit % 16 < 16 = omega arith in glyph_harmless (c / unit % 16) small

number_harmless : (rest : List ℕ) (c : ℕ) → c < 0x1_0000 →
    list_all (λ c. not (c == 60)) ((codes "\\u" ++ hex_number c) ++ rest) ≡ list_all (λ c. not (c == 60)) rest
unfolding hex_number
number_harmless rest c small =
    let short : nat_lt c 0x1_0000 ≡ true = grind (arith, nat_tests) in
    rw (short, digit_harmless c 0x1000, digit_harmless c 0x100, digit_harmless c 0x10, digit_harmless c 1) refl

plain_harmless : (c : ℕ) → is_numbered c ≡ false → (c == 60) ≡ false
plain_harmless c is = grind (arith, nat_tests)

one_harmless : (rest : List ℕ) (c : ℕ) → list_all (λ c. not (c == 60)) (json_spelling c ++ rest) ≡ list_all (λ c. not (c == 60)) rest
one_harmless rest =
    json_cases (λ c spelled. list_all (λ c. not (c == 60)) (spelled ++ rest) ≡ list_all (λ c. not (c == 60)) rest) refl refl (number_harmless rest)
    (λ c a b is. let e : (c == 60) ≡ false = plain_harmless c is in rw e refl)

harmless_on : (text : List ℕ) → list_all (λ c. not (c == 60)) (spelled Json text ++ 34 ∷ []) ≡ true
unfolding spelled
harmless_on [] = refl
harmless_on (c ∷ cs) =
    ap (list_all (λ c. not (c == 60))) (append_assoc (json_spelling c) (spelled Json cs) (34 ∷ []))
    ∙ one_harmless (spelled Json cs ++ 34 ∷ []) c ∙ harmless_on cs

pub json_harmless : (text : List ℕ) → list_all (λ c. not (c == 60)) (json_string text) ≡ true
unfolding json_string
json_harmless text = harmless_on text
