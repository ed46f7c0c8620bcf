-- Each expected copy is alone, or one observed copy has it, and no other.
use Rattle.std.specs.Prelude.{ℕ, ◌≡◌, ◌+◌, ◌==◌, Bool, false, nat_lt, List, [], ◌∷◌, Option, Some, None, if◌then◌else◌}
use Rattle.hsr_judging.specs.Matching.{Matched, is_alone}
use Rattle.hsr_judging.specs.declared.matching.Got.{Got}

abbrev pub one_if : Bool → ℕ
one_if b = if b then 1 else 0

abbrev pub has_it : ℕ → Option Got → Bool
has_it i None = false
has_it i (Some got) = got.expected == i

-- how many observed copies have the expected copy of that index
abbrev pub holders : ℕ → List (Option Got) → ℕ
holders i [] = 0
holders i (g ∷ gs) = one_if (has_it i g) + holders i gs

-- each of so many expected copies is alone, or one observed copy has it and no other; and no observed copy has one that isn't there
abbrev pub IsPartition : ℕ → Matched → Type 0
IsPartition n m = (i : ℕ) → holders i m.0 + one_if (is_alone m.1 i) ≡ one_if (nat_lt i n)
