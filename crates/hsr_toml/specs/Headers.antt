-- Where words and headers stand in a text, whatever they are part of.
use Rattle.std.specs.Prelude.{◌≡◌, ℕ, ◌+◌, ◌-◌, ◌<◌, ◌≤◌, ◌==◌, ◌&&◌, nat_le, Bool, true, false, List, length, slice_get, Option, Some, None}
use Rattle.hsr_toml.specs.Position.{is_whole}

-- the first offset from `from` on where the word stands whole
pub record IsFirst (text word : List ℕ) (from at : ℕ) : Type 0 where
  pub behind : from ≤ at
  pub whole : is_whole text word at ≡ true
  pub first : (k : ℕ) → from ≤ k → k < at → is_whole text word k ≡ false

abbrev pub is_octet : Option ℕ → ℕ → Bool
is_octet None b = false
is_octet (Some c) b = c == b

-- two brackets open before an offset, and one closes so much behind it
abbrev pub is_bracketed : List ℕ → ℕ → ℕ → Bool
is_bracketed text at long = nat_le 2 at && (is_octet (slice_get text (at - 1)) 91 && (is_octet (slice_get text (at - 2)) 91 && is_octet (slice_get text (at + long)) 93))

-- the word stands there whole, as in a header `[[word]]`
pub record IsHeader (text word : List ℕ) (at : ℕ) : Type 0 where
  pub whole : is_whole text word at ≡ true
  pub bracketed : is_bracketed text at (length word) ≡ true
