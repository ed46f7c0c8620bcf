-- What `--within` chooses.
use Rattle.std.specs.Prelude.{◌≡◌, ◌≤◌, ℕ, Option, Some, None}
use Rattle.clap.specs.Words.{Text}
use Rattle.hsr_text.specs.Words.{decimal_of}

-- a bound by a word: none without one, else a number of microseconds from 1 to 400000, in decimal
abbrev pub IsWithin : Option Text → Option ℕ → Type 0
IsWithin None bound = bound ≡ None
IsWithin (Some word) None = ⊥
IsWithin (Some word) (Some bound) = (decimal_of word ≡ Some bound) × (1 ≤ bound) × (bound ≤ 400000)
