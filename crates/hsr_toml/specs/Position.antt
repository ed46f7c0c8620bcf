-- Where a word stands in a text.
use Rattle.std.specs.Prelude.{◌≡◌, ℕ, ◌+◌, ◌-◌, ◌<◌, ◌≤◌, ◌==◌, ◌&&◌, ◌||◌, not, nat_le, Bool, true, false, List, [], ◌∷◌, length, take, drop, count_by, slice_get, Option, Some, None, if◌then◌else◌}
use Rattle.std.specs.Str.{bytes_eq}
use Rattle.hsr_toml.specs.declared.position.Position.{Position}

-- a letter, a digit, a hyphen or an underscore
abbrev pub is_word_octet : ℕ → Bool
is_word_octet b = (nat_le 97 b && nat_le b 122) || ((nat_le 65 b && nat_le b 90) || ((nat_le 48 b && nat_le b 57) || (b == 45 || b == 95)))

-- no octet of a word stands there
abbrev pub is_edge : Option ℕ → Bool
is_edge None = true
is_edge (Some b) = not (is_word_octet b)

abbrev pub before : List ℕ → ℕ → Option ℕ
before text at = if at == 0 then None else slice_get text (at - 1)

-- the word stands at this offset, and is not part of a longer one
unfoldable pub is_whole : List ℕ → List ℕ → ℕ → Bool
is_whole text word at = bytes_eq (take (length word) (drop at text)) word && (is_edge (before text at) && is_edge (slice_get text (at + length word)))

-- ---- lines and columns

-- octets since the last line feed
abbrev pub column : ℕ → List ℕ → ℕ
column n [] = n
column n (b ∷ bs) = column (if b == 10 then 0 else n + 1) bs

-- line and column count from 1, columns in octets
abbrev pub position_of : List ℕ → ℕ → Position
position_of text at = record { line = count_by (λ b. b == 10) (take at text) + 1; column = column 0 (take at text) + 1 }
