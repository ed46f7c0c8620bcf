-- What the test of two numbers says.
use Rattle.std.proofs.Common.{◌≡◌, ◌==◌, ℕ, true, false, eqb-true, eq-eqb, ⊎_elim}
use Rattle.std.proofs.lemmas.Bool.{cases_Bool}

pub not_same : (a b : ℕ) → (a ≡ b → ⊥) → (a == b) ≡ false
not_same a b other = ⊎_elim (λ same. absurd (other (eqb-true a b same))) (λ no. no) (cases_Bool (a == b))

pub same : (a b : ℕ) → a ≡ b → (a == b) ≡ true
same a b e = eq-eqb a b e
