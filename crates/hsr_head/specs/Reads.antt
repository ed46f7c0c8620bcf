-- What is read of a text before it is tried.
--     front        its first octets
--     ReadsPiece   a piece was read
--     ReadsHead    a head was read that has the front
use Rattle.std.specs.Prelude.{ℕ, ◌≡◌, ◌++◌, Bool, false, List, Option, take, IfSome}
use Rattle.std.specs.Io.KnownBytes.{Consumes, IsAtEnd}

-- its first 4096 octets, or all where it has fewer
abbrev pub front : List ℕ → List ℕ
front text = take 4096 text

-- a piece was read and put behind a text; `false` at the end of what there was to read
abbrev pub ReadsPiece : Option (List ℕ) → Option (List ℕ) → List ℕ → List ℕ → Bool → Type 0
ReadsPiece old new held holds more = (piece : List ℕ) × (holds ≡ held ++ piece) × Consumes old new piece × (more ≡ false → IsAtEnd new)

-- octets were read from the front of a text, and they have the same front
abbrev pub ReadsHead : Option (List ℕ) → Option (List ℕ) → List ℕ → Type 0
ReadsHead old new head = Consumes old new head × IfSome old (λ text. front text ≡ front head)
