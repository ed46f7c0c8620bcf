-- An explanation: lines without control octets.
use Rattle.std.specs.Prelude.{ℕ, List, [], ◌∷◌, ◌++◌, codes, map}
use Rattle.hsr_toml.specs.Line.{shown}

abbrev pub line_of : List ℕ → List ℕ
line_of words = codes "explain: " ++ map shown words ++ codes "\n"

-- one behind the other
abbrev pub lines_of : List (List ℕ) → List ℕ
lines_of [] = []
lines_of (words ∷ more) = line_of words ++ lines_of more
