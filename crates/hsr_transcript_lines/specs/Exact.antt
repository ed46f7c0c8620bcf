-- Lines and words that are the one spelling of what they say.
use Rattle.std.specs.Prelude.{ℕ, nat_lt, ◌&&◌, Bool, true, if◌then◌else◌, List, [], ◌∷◌, Option, Some, None}
use Rattle.std.specs.Str.{bytes_eq}

-- the value whose line this is: what the line says, if it is spelled so
abbrev pub checked : {Y : Type 0} → (Y → List ℕ) → List ℕ → Option Y → Option Y
checked spelled line None = None
checked spelled line (Some y) = if bytes_eq (spelled y) line then Some y else None

abbrev pub exactly : {Y : Type 0} → (Y → List ℕ) → (List ℕ → Option Y) → List ℕ → Option Y
exactly spelled said = λ line. checked spelled line (said line)

-- what is said, where it meets a test
abbrev pub tested : {Y : Type 0} → (Y → Bool) → Option Y → Option Y
tested test None = None
tested test (Some y) = if test y then Some y else None

-- no octet is a lower-case letter
abbrev pub is_upper : List ℕ → Bool
is_upper [] = true
is_upper (b ∷ bs) = nat_lt b 97 && is_upper bs

-- what stands behind a word: nothing, or a space and the other words
abbrev pub after : Option (List ℕ) → List ℕ
after None = []
after (Some rest) = 32 ∷ rest
