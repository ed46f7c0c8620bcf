-- Whether the steps that a node accepts are spent.
use Rattle.std.proofs.Common.{◌≡◌, ℕ, ◌<◌, ◌==◌, true, false, arith}
use Rattle.std.proofs.lemmas.Bool.Decides.{nat_tests}
use Rattle.hsr_frame.specs.Counters.{step_limit}

pub unspent : (accepted : ℕ) → accepted < step_limit → (accepted == step_limit) ≡ false
unspent accepted lt = grind (arith, nat_tests)

pub spent : (accepted : ℕ) → accepted ≡ step_limit → true ≡ (accepted == step_limit)
spent accepted e = grind (arith, nat_tests)
