-- What holds of each number below another one.
use Rattle.std.proofs.Common.{◌≡◌, ◌⊎◌, inl, inr, ℕ, ◌+◌, ◌<◌, ◌≤◌, subst, sym, arith}
use Rattle.std.proofs.Math.Nat.{eq-or-lt_of_le}

-- what holds below a number and of that number holds below the next one
pub below_next : (P : ℕ → Type 0) (i : ℕ) → ((k : ℕ) → k < i → P k) → P i → (k : ℕ) → k < i + 1 → P k
below_next P i below here k h = let most : k ≤ i = omega arith in go (eq-or-lt_of_le most)
  where
    go : (k ≡ i) ⊎ (k < i) → P k
    go (inl e) = subst P (sym e) here
    go (inr l) = below k l
