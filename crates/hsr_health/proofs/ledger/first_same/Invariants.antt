use Rattle.std.proofs.Common.{◌≡◌, ℕ, ◌<◌}
use Rattle.std.specs.Prelude.{slice_get}
use Rattle.hsr_health.proofs.ledger.first_same.Given as goal

-- none so far is the same
abbrev pub invariant-loop-j : goal.invariant-loop-j
invariant-loop-j l = (i : ℕ) → i < l.j → slice_get l.names i ≡ slice_get l.names l.k → ⊥
