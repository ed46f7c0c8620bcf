-- Sections of lines, as they are written.
use Rattle.std.specs.Prelude.{ℕ, ◌+◌, List, [], ◌∷◌, ◌++◌, length}
use Rattle.std.specs.Fmt.{decimal}

-- lines, each with its line feed
abbrev pub text_of : List (List ℕ) → List ℕ
text_of [] = []
text_of (line ∷ lines) = line ++ 10 ∷ text_of lines

-- the lines of each value
abbrev pub lines_by : {Y : Type 0} → (Y → List (List ℕ)) → List Y → List (List ℕ)
lines_by spelled [] = []
lines_by spelled (y ∷ ys) = spelled y ++ lines_by spelled ys

-- the lines of each value beside another one
abbrev pub lines_each : {X Y : Type 0} → (X → Y → List (List ℕ)) → List X → List Y → List (List ℕ)
lines_each spelled [] ys = []
lines_each spelled (x ∷ xs) [] = []
lines_each spelled (x ∷ xs) (y ∷ ys) = spelled x y ++ lines_each spelled xs ys

-- a line that says how many values there are, and the lines of each
abbrev pub lines_counted : {Y : Type 0} → (ℕ → List ℕ) → (Y → List (List ℕ)) → List Y → List (List ℕ)
lines_counted head spelled ys = head (length ys) ∷ lines_by spelled ys

-- a value that has one line
abbrev pub one : {Y : Type 0} → (Y → List ℕ) → Y → List (List ℕ)
one spelled y = spelled y ∷ []

-- `<name> <count>`
abbrev pub head : List ℕ → ℕ → List ℕ
head name count = name ++ 32 ∷ decimal count

-- a section under a name, with one line for each value
unfoldable pub section : {Y : Type 0} → List ℕ → (Y → List ℕ) → List Y → List (List ℕ)
section name spelled ys = lines_counted (head name) (one spelled) ys

-- how many lines sections have
abbrev pub line_count : {Y : Type 0} → List (List Y) → ℕ
line_count [] = 0
line_count (ys ∷ yss) = 1 + length ys + line_count yss
