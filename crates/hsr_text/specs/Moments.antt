-- Moments as a text tells them, in its unit.
use Rattle.std.specs.Prelude.{◌≡◌, ℕ, ◌*◌, ◌/◌, ◌%◌, ◌^◌, nat_lt, List, [], ◌∷◌, codes, Option, Some, None, if◌then◌else◌}
use Rattle.std.specs.Str.{bytes_eq}
use Rattle.hsr_frame.specs.Cases.{first_of}
use Rattle.hsr_text.specs.Words.{◌>>=◌, decimal_of}
use Rattle.hsr_text.specs.declared.time_unit.TimeUnit.{TimeUnit}
use Rattle.hsr_text.specs.declared.time_unit.TimeUnit.TheVariants.{Milliseconds, Microseconds}

abbrev pub unit_word : TimeUnit → List ℕ
unit_word Milliseconds = codes "ms"
unit_word Microseconds = codes "us"

abbrev pub unit_of : List ℕ → Option TimeUnit
unit_of w = first_of ((bytes_eq w (codes "ms"), Some Milliseconds) ∷ (bytes_eq w (codes "us"), Some Microseconds) ∷ []) None

-- a moment in microseconds, if they are fewer than 2^64
abbrev pub moment_in : TimeUnit → ℕ → Option ℕ
moment_in Milliseconds n = if nat_lt (n * 1000) (2 ^ 64) then Some (n * 1000) else None
moment_in Microseconds n = Some n

-- how a unit tells a moment in microseconds; what is less than one of the unit is left out
abbrev pub whole_units : TimeUnit → ℕ → ℕ
whole_units Milliseconds at = at / 1000
whole_units Microseconds at = at

-- the unit leaves nothing out
abbrev pub IsMomentOf : TimeUnit → ℕ → Type 0
IsMomentOf Milliseconds at = at % 1000 ≡ 0
IsMomentOf Microseconds at = Unit {0}

-- the moment in microseconds that a word spells
abbrev pub moment_of : TimeUnit → List ℕ → Option ℕ
moment_of unit word = do
  n ← decimal_of word
  moment_in unit n
