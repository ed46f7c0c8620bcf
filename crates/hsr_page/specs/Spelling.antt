-- Texts as the syntaxes of a page spell them. A text is a list of characters here, each by its number.
--     escaped        a text in an element of HTML, or between double quotes of an attribute
--     json_string    a string of JSON, with its quotes, that can stand in a script element
--     style_string   a string of a style, with its quotes
use Rattle.std.specs.Prelude.{ℕ, ◌==◌, Bool, nat_lt, ◌||◌, if◌then◌else◌, List, [], ◌∷◌, ◌++◌, codes}
use Rattle.std.specs.Char.{is_ascii_alphanumeric}
use Rattle.std.specs.List.{flat_map}
use Rattle.hsr_page.specs.declared.spelling.Syntax.{Syntax}
use Rattle.hsr_page.specs.declared.spelling.Syntax.TheVariants.{Html, Json, Style}
use Rattle.hsr_page.specs.Hidden.{hex_number}

-- HTML living standard, 13.1.4 and 13.5
abbrev pub html_spelling : ℕ → List ℕ
html_spelling c =
    if c == 38 then codes "&amp;" else (if c == 60 then codes "&lt;" else (if c == 62 then codes "&gt;" else
    (if c == 34 then codes "&quot;" else (if c == 39 then codes "&#39;" else c ∷ []))))

-- controls; < begins the end of a script element, or a comment; U+2028 and U+2029 end a line of a script
abbrev pub is_numbered : ℕ → Bool
is_numbered c = nat_lt c 32 || c == 60 || c == 0x2028 || c == 0x2029

-- RFC 8259, section 7
abbrev pub json_spelling : ℕ → List ℕ
json_spelling c =
    if c == 34 then codes "\\\"" else (if c == 92 then codes "\\\\" else (if is_numbered c then codes "\\u" ++ hex_number c else c ∷ []))

-- CSS Syntax 3, 4.3.7
abbrev pub style_spelling : ℕ → List ℕ
style_spelling c = if is_ascii_alphanumeric c || c == 32 then c ∷ [] else codes "\\" ++ hex_number c ++ codes " "

abbrev pub spelling : Syntax → ℕ → List ℕ
spelling Html c = html_spelling c
spelling Json c = json_spelling c
spelling Style c = style_spelling c

unfoldable pub spelled : Syntax → List ℕ → List ℕ
spelled syntax text = flat_map (spelling syntax) text

unfoldable pub escaped : List ℕ → List ℕ
escaped text = spelled Html text

unfoldable pub json_string : List ℕ → List ℕ
json_string text = 34 ∷ spelled Json text ++ 34 ∷ []

unfoldable pub style_string : List ℕ → List ℕ
style_string text = 34 ∷ spelled Style text ++ 34 ∷ []
