-- A fact of each of a few places, shown place by place.
use Rattle.std.proofs.Common.{ℕ, ◌<◌, zero, suc, arith}

-- a fact of each of the first n places
unfoldable pub UpTo : (ℕ → Type 0) → ℕ → Type 0
UpTo P zero = Unit {0}
UpTo P (suc n) = P 0 × UpTo (λ k. P (suc k)) n

pub each_up_to : (P : ℕ → Type 0) (n : ℕ) → UpTo P n → (k : ℕ) → k < n → P k
unfolding UpTo
each_up_to P zero all k lt = absurd (omega arith)
each_up_to P (suc n) all zero lt = all.0
each_up_to P (suc n) all (suc k) lt = each_up_to (λ k. P (suc k)) n all.1 k (omega arith)
