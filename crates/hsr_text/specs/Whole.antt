-- A text that is read whole, up to a length.
use Rattle.std.specs.Prelude.{ℕ, ◌≡◌, ◌⊎◌, ◌<◌, ◌++◌, Bool, false, List, Option, length}
use Rattle.std.specs.Io.KnownBytes.{Consumes, IsAtEnd}

-- a piece was read and put behind a text; `false` at the end of what there was to read
abbrev pub ReadsPiece : Option (List ℕ) → Option (List ℕ) → List ℕ → List ℕ → Bool → Type 0
ReadsPiece old new held holds more =
    (piece : List ℕ) × (holds ≡ held ++ piece) × Consumes old new piece × (more ≡ false → IsAtEnd new)

-- all of a text, or a front of it that is longer than `most`
abbrev pub IsWhole : ℕ → List ℕ → List ℕ → Type 0
IsWhole most text read = (text ≡ read) ⊎ ((most < length read) × ((rest : List ℕ) × (text ≡ read ++ rest)))
