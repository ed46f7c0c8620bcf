-- Octets that are put are UTF-8, and are read as what is seen of a text.
use Rattle.std.proofs.Common.{◌≡◌, ℕ, ◌/◌, ◌%◌, ◌<◌, ◌==◌, ◌&&◌, ◌||◌, nat_lt, cond, Bool, true, false, List, [], ◌∷◌, ◌++◌, refl, sym, ap, ◌∙◌, arith, append-nil}
use Rattle.std.specs.Prelude.{IsUtf8, chars, codes, encode_utf8_all}
use Rattle.std.specs.Char.{is_ascii_alphanumeric}
use Rattle.std.specs.Fmt.{digit_glyph}
use Rattle.std.specs.List.{flat_map}
use Rattle.std.proofs.Math.Utf8.{low_scalar, scalar, scalars}
use Rattle.std.proofs.lemmas.Bool.Decides.{nat_tests}
use Rattle.std.proofs.lemmas.Str.{chars-encodes, scalars-chars}
use Rattle.hsr_page.specs.declared.spelling.Syntax.{Syntax}
use Rattle.hsr_page.specs.declared.spelling.Syntax.TheVariants.{Html, Json, Style}
use Rattle.hsr_page.specs.Hidden.{digit_of, hex_number, high_digits, is_hidden, seen, shown, shown_number}
use Rattle.hsr_page.specs.Spelling.{escaped, json_string, spelled, spelling, style_spelling}
use Rattle.hsr_page.specs.Reading.{read_html, read_json}
use Rattle.hsr_page.proofs.Escaped.{escaped_read, html_cases}
use Rattle.hsr_page.proofs.JsonRead.{json_cases, json_read}

-- ---- scalar values

first_scalar : (a b : Bool) → (a && b) ≡ true → a ≡ true
first_scalar true b h = refl
first_scalar false b h = h

rest_scalars : (a b : Bool) → (a && b) ≡ true → b ≡ true
rest_scalars true b h = h
rest_scalars false b h = cc

scalars_append : (xs ys : List ℕ) → scalars xs ≡ true → scalars ys ≡ true → scalars (xs ++ ys) ≡ true
scalars_append [] ys a b = b
scalars_append (x ∷ xs) ys a b =
    let here : scalar x ≡ true = first_scalar (scalar x) (scalars xs) a in
    rw here (scalars_append xs ys (rest_scalars (scalar x) (scalars xs) a) b)

scalars_flat_map : (f : ℕ → List ℕ) → ((c : ℕ) → scalar c ≡ true → scalars (f c) ≡ true) → (cs : List ℕ) → scalars cs ≡ true → scalars (flat_map f cs) ≡ true
scalars_flat_map f each [] h = refl
scalars_flat_map f each (c ∷ cs) h =
    scalars_append (f c) (flat_map f cs) (each c (first_scalar (scalar c) (scalars cs) h)) (scalars_flat_map f each cs (rest_scalars (scalar c) (scalars cs) h))

-- ---- numbers

glyph_low : (d : ℕ) → d < 16 → digit_glyph true d < 128
glyph_low d small = grind (arith, nat_tests)

digit_scalar : (c unit : ℕ) → scalar (digit_of c unit) ≡ true
digit_scalar c unit =
    let small : c / unit % 16 < 16 = omega arith in
    let low : digit_of c unit < 128 = glyph_low (c / unit % 16) small in
    low_scalar (digit_of c unit) (omega arith)

high_scalars : (c : ℕ) → scalars (high_digits c) ≡ true
high_scalars c = by (nat_lt c 0x1_0000) (nat_lt c 0x10_0000)
  where
    by : (short long : Bool) → scalars (cond short [] (cond long (digit_of c 0x1_0000 ∷ []) (digit_of c 0x10_0000 ∷ digit_of c 0x1_0000 ∷ []))) ≡ true
    by true long = refl
    by false true = rw (digit_scalar c 0x1_0000) refl
    by false false = rw (digit_scalar c 0x10_0000, digit_scalar c 0x1_0000) refl

hex_scalars : (c : ℕ) → scalars (hex_number c) ≡ true
unfolding hex_number
hex_scalars c =
    scalars_append (high_digits c) (digit_of c 0x1000 ∷ digit_of c 0x100 ∷ digit_of c 0x10 ∷ digit_of c 1 ∷ []) (high_scalars c)
    (rw (digit_scalar c 0x1000, digit_scalar c 0x100, digit_scalar c 0x10, digit_scalar c 1) refl)

-- ---- what is seen, and spelled

one_scalar : (c : ℕ) → scalar c ≡ true → scalars (c ∷ []) ≡ true
one_scalar c is = rw is refl

shown_scalars : (c : ℕ) → scalar c ≡ true → scalars (shown c) ≡ true
unfolding shown_number
shown_scalars c is = by (is_hidden c)
  where
    by : (hidden : Bool) → scalars (cond hidden (shown_number c) (c ∷ [])) ≡ true
    by true = scalars_append (hex_number c) (0x27E9 ∷ []) (hex_scalars c) refl
    by false = one_scalar c is

style_scalars : (c : ℕ) → scalar c ≡ true → scalars (style_spelling c) ≡ true
style_scalars c is = by (is_ascii_alphanumeric c || c == 32)
  where
    by : (plain : Bool) → scalars (cond plain (c ∷ []) (codes "\\" ++ hex_number c ++ codes " ")) ≡ true
    by true = one_scalar c is
    by false = scalars_append (hex_number c) (codes " ") (hex_scalars c) refl

spelling_scalars : (syntax : Syntax) (c : ℕ) → scalar c ≡ true → scalars (spelling syntax c) ≡ true
spelling_scalars Html c is =
    html_cases (λ c spelled. scalar c ≡ true → scalars spelled ≡ true) (λ h. refl) (λ h. refl) (λ h. refl) (λ h. refl) (λ h. refl) (λ c a b d e f h. one_scalar c h) c is
spelling_scalars Json c is =
    json_cases (λ c spelled. scalar c ≡ true → scalars spelled ≡ true) (λ h. refl) (λ h. refl) (λ c small h. hex_scalars c) (λ c a b d h. one_scalar c h) c is
spelling_scalars Style c is = style_scalars c is

pub put_scalars : (syntax : Syntax) (said : List ℕ) → IsUtf8 said → scalars (spelled syntax (seen (chars said))) ≡ true
unfolding spelled seen
put_scalars syntax said is =
    scalars_flat_map (spelling syntax) (spelling_scalars syntax) (flat_map shown (chars said)) (scalars_flat_map shown shown_scalars (chars said) (scalars-chars said is))

-- ---- what is read

pub escaped_put_read : (said : List ℕ) → IsUtf8 said → read_html (chars (encode_utf8_all (escaped (seen (chars said))))) ≡ seen (chars said)
unfolding escaped
escaped_put_read said is = ap read_html (chars-encodes (escaped (seen (chars said))) (put_scalars Html said is)) ∙ escaped_read (seen (chars said))

pub json_put_read : (said : List ℕ) → IsUtf8 said → read_json (chars (encode_utf8_all (json_string (seen (chars said))))) ≡ seen (chars said)
unfolding json_string
json_put_read said is =
    let all : scalars (json_string (seen (chars said))) ≡ true = scalars_append (spelled Json (seen (chars said))) (34 ∷ []) (put_scalars Json said is) refl in
    ap read_json (chars-encodes (json_string (seen (chars said))) all)
    ∙ ap read_json (sym (append-nil (json_string (seen (chars said))))) ∙ json_read (seen (chars said)) []
