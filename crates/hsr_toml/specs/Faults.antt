-- What is told of a table's keys.
use Rattle.std.specs.Prelude.{ℕ, Bool, List}

-- the words of keys, and the faults of what stands at them
pub record Faults (K E : Type 0) : Type 0 where
  pub text : K → List ℕ
  pub missing : K → E
  pub wrong_kind : K → E
  pub bad_value : K → E
  pub is_memory : E → Bool
