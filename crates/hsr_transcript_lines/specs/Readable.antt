-- A line that is read as the value whose line it is.
--     IsSpelled    what a value is spelled as is a line, and is read as that value
--     IsLineOf     and is not too long
use Rattle.std.specs.Prelude.{◌≡◌, ◌≤◌, ◌==◌, ℕ, false, List, [], ◌∷◌, length, Option, Some}

-- no octet is this one
abbrev pub Lacks : ℕ → List ℕ → Type 0
Lacks s [] = Unit {0}
Lacks s (b ∷ bs) = ((b == s) ≡ false) × Lacks s bs

-- what a value is spelled as is a line, and is read as that value
pub record IsSpelled {Y : Type 0} (of : List ℕ → Option Y) (spelled : Y → List ℕ) (y : Y) : Type 0 where
  pub read : of (spelled y) ≡ Some y
  pub line : Lacks 10 (spelled y)

-- and has at most 8192 octets
abbrev pub IsLineOf : {Y : Type 0} → (List ℕ → Option Y) → (Y → List ℕ) → Y → Type 0
IsLineOf of spelled y = IsSpelled of spelled y × (length (spelled y) ≤ 8192)
