-- The links that lost copies, of those that were looked at.
use Rattle.std.specs.Prelude.{ℕ, ◌<◌, ◌≡◌, Bool, true, false}
use Rattle.hsr_run_laws.specs.Premises.{any_lost}
use Rattle.hsr_run_laws.specs.Run.{Run, rows_of}

abbrev pub loses : Run → ℕ → Bool
loses run l = any_lost (rows_of run l)

abbrev pub NoLossBelow : Run → ℕ → Type 0
NoLossBelow run n = (l : ℕ) → l < n → loses run l ≡ false

-- of the links below n this one alone lost copies
pub record IsOnlyLoss (run : Run) (n l : ℕ) : Type 0 where
  pub below : l < n
  pub here : loses run l ≡ true
  pub only : (j : ℕ) → j < n → loses run j ≡ true → j ≡ l
