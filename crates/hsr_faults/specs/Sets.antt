-- Sets of channels, by their numbers.
--     Meet       a number is in both
--     IsWithin   all numbers of one are in the other
--     IsTaken    a number is taken out
use Rattle.std.specs.Prelude.{ℕ, ◌<◌, ◌≡◌, ◌==◌, true, false, if◌then◌else◌, List}
use Rattle.hsr_bitset.specs.Numbers.{has}

pub record Meet (a b : List ℕ) : Type 0 where
  pub number : ℕ
  pub first : has a number ≡ true
  pub second : has b number ≡ true

abbrev pub IsWithin : List ℕ → List ℕ → Type 0
IsWithin a b = (n : ℕ) → has a n ≡ true → has b n ≡ true

-- it was in, and no longer is
pub record IsTaken (number : ℕ) (set new_set : List ℕ) : Type 0 where
  pub below : number < 256
  pub was : has set number ≡ true
  pub left : (n : ℕ) → has new_set n ≡ (if n == number then false else has set n)
