-- Sets of numbers, as bits of words.
use Rattle.std.specs.Prelude.{ℕ, ◌<◌, ◌/◌, ◌%◌, ◌==◌, ◌≡◌, Bool, true, false, List, slice_index_or, Option, Some, None}
use Rattle.std.specs.Int.{bit_at}

abbrev pub has_bit : ℕ → ℕ → Bool
has_bit word i = bit_at word i == 1

-- whether a number is among those of words of 64 bits
abbrev pub has : List ℕ → ℕ → Bool
has words n = has_bit (slice_index_or words (n / 64) 0) (n % 64)

-- this is the lowest number below a limit, or there is none
abbrev pub IsLowest : ℕ → List ℕ → Option ℕ → Type 0
IsLowest limit words (Some k) = (k < limit) × (has words k ≡ true) × ((n : ℕ) → n < k → has words n ≡ false)
IsLowest limit words None = (n : ℕ) → n < limit → has words n ≡ false
