-- What is read of a text that was spelled. A text is a list of characters here.
--     read_html     what a browser reads of it in an element of HTML, or between double quotes of an attribute
--     read_json     what JSON.parse reads of a string of it that a text begins with
--     is_harmless   nothing in it begins or ends markup or an attribute, and & begins one of five references
use Rattle.std.specs.Prelude.{◌≡◌, ℕ, ◌+◌, ◌-◌, ◌*◌, ◌==◌, Bool, true, not, ◌&&◌, ◌||◌, if◌then◌else◌, List, [], ◌∷◌, ◌++◌, Option, Some, None, IsUtf8, bytes_eq, chars, encode_utf8_all, nat_eq, codes}
use Rattle.std.specs.Char.{digit_value}
use Rattle.std.specs.List.{list_all, list_any, starts_with}
use Rattle.hsr_page.specs.Hidden.{seen}
use Rattle.hsr_page.specs.Spelling.{escaped, json_string}

-- ---- HTML

-- the character that a reference names; what names none of the five is left as it stands
abbrev pub referred : List ℕ → List ℕ
referred name =
    if bytes_eq name (codes "amp") then 38 ∷ [] else (if bytes_eq name (codes "lt") then 60 ∷ [] else (if bytes_eq name (codes "gt") then 62 ∷ [] else
    (if bytes_eq name (codes "quot") then 34 ∷ [] else (if bytes_eq name (codes "#39") then 39 ∷ [] else 38 ∷ name ++ 59 ∷ []))))

-- outside of references, or behind an & and these characters (HTML living standard, 13.2.5.72 and on)
abbrev pub html_read_on : Option (List ℕ) → List ℕ → List ℕ
html_read_on None [] = []
html_read_on None (c ∷ cs) = if c == 38 then html_read_on (Some []) cs else c ∷ html_read_on None cs
html_read_on (Some name) [] = 38 ∷ name
html_read_on (Some name) (c ∷ cs) = if c == 59 then referred name ++ html_read_on None cs else html_read_on (Some (name ++ c ∷ [])) cs

abbrev pub read_html : List ℕ → List ℕ
read_html text = html_read_on None text

abbrev pub begins_reference : List ℕ → Bool
begins_reference text =
    list_any (λ name. starts_with nat_eq text name) (codes "amp;" ∷ codes "lt;" ∷ codes "gt;" ∷ codes "quot;" ∷ codes "#39;" ∷ [])

-- < > " '
abbrev pub is_markup : ℕ → Bool
is_markup c = c == 60 || c == 62 || c == 34 || c == 39

abbrev pub is_harmless : List ℕ → Bool
is_harmless [] = true
is_harmless (c ∷ cs) = not (is_markup c) && (not (c == 38) || begins_reference cs) && is_harmless cs

abbrev pub EscapedIsRead : Type 0
EscapedIsRead = (text : List ℕ) → read_html (escaped text) ≡ text

-- what is put of a text, octets that are decoded as UTF-8, is read as what is seen of it
abbrev pub PutIsRead : Type 0
PutIsRead = (said : List ℕ) → IsUtf8 said → let octets = encode_utf8_all (escaped (seen (chars said))) in read_html (chars octets) ≡ seen (chars said)

abbrev pub EscapedIsHarmless : Type 0
EscapedIsHarmless = (text : List ℕ) → is_harmless (escaped text) ≡ true

-- ---- JSON

-- where reading stands: between characters, behind a backslash, or before so many digits of a number, behind digits that make this number
pub data Place : Type 0 where
  between : Place
  behind_backslash : Place
  before_digits : ℕ → ℕ → Place

-- a letter behind a backslash
abbrev pub short_escape : ℕ → ℕ
short_escape c =
    if c == 98 then 8 else (if c == 102 then 12 else (if c == 110 then 10 else (if c == 114 then 13 else (if c == 116 then 9 else c))))

-- up to the quote that ends it (RFC 8259, section 7)
abbrev pub json_read_on : Place → List ℕ → List ℕ
json_read_on place [] = []
json_read_on between (c ∷ cs) =
    if c == 34 then [] else (if c == 92 then json_read_on behind_backslash cs else c ∷ json_read_on between cs)
json_read_on behind_backslash (c ∷ cs) =
    if c == 117 then json_read_on (before_digits 4 0) cs else short_escape c ∷ json_read_on between cs
json_read_on (before_digits left n) (c ∷ cs) =
    if left == 1 then (16 * n + digit_value c) ∷ json_read_on between cs else json_read_on (before_digits (left - 1) (16 * n + digit_value c)) cs

abbrev pub read_json : List ℕ → List ℕ
read_json [] = []
read_json (quote ∷ cs) = json_read_on between cs

-- whatever stands behind it
abbrev pub JsonIsRead : Type 0
JsonIsRead = (text rest : List ℕ) → read_json (json_string text ++ rest) ≡ text

abbrev pub PutJsonIsRead : Type 0
PutJsonIsRead = (said : List ℕ) → IsUtf8 said → let octets = encode_utf8_all (json_string (seen (chars said))) in read_json (chars octets) ≡ seen (chars said)

-- no < is left in it
abbrev pub JsonIsHarmless : Type 0
JsonIsHarmless = (text : List ℕ) → list_all (λ c. not (c == 60)) (json_string text) ≡ true
