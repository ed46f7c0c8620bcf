-- Where a word stands in a text and in the same text without its comments and strings.
use Rattle.std.specs.Prelude.{ℕ, ◌-◌, ◌==◌, ◌&&◌, ◌||◌, not, nat_lt, Bool, false, List, slice_get, Option, Some, None}
use Rattle.hsr_toml.specs.Position.{before, is_whole}

abbrev pub is_quote : Option ℕ → Bool
is_quote None = false
is_quote (Some b) = b == 34

-- a string begins at this offset of a bare text
abbrev pub begins_string : List ℕ → ℕ → Bool
begins_string bare k = is_quote (slice_get bare k) && not (is_quote (before bare k))

-- the word stands there whole: outside of comments and strings, or as the first of a string
unfoldable pub stands : List ℕ → List ℕ → List ℕ → ℕ → Bool
stands text bare word at = is_whole text word at && (is_whole bare word at || (nat_lt 0 at && begins_string bare (at - 1)))
