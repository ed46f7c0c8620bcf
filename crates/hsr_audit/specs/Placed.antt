-- A fact of each place of each record, and where it fails first.
use Rattle.std.specs.Prelude.{ℕ, ◌<◌, length, Option, Some, None}
use Rattle.hsr_run_laws.specs.Run.{Run, record_of}
use Rattle.hsr_table_flaws.specs.Flaws.{IsFirstNot}

abbrev pub HoldsBelow : (ℕ → ℕ → Type 0) → ℕ → ℕ → Type 0
HoldsBelow P k n = (i : ℕ) → i < n → P k i

-- of the first n places of a node's record the first where P fails
pub record IsFirstOf (P : ℕ → ℕ → Type 0) (k n i : ℕ) : Type 0 where
  pub below : i < n
  pub fails : ¬ P k i
  pub before : HoldsBelow P k i

abbrev pub IsFirstIn : (ℕ → ℕ → Type 0) → ℕ → ℕ → Option ℕ → Type 0
IsFirstIn P k n None = HoldsBelow P k n
IsFirstIn P k n (Some i) = IsFirstOf P k n i

-- P holds at all places of the nodes below one
abbrev pub HoldsIn : Run → (ℕ → ℕ → Type 0) → ℕ → Type 0
HoldsIn run P n = (k : ℕ) → k < n → HoldsBelow P k (length (record_of run k))

abbrev pub IsFirstPair : Run → (ℕ → ℕ → Type 0) → Option (ℕ × ℕ) → Type 0
IsFirstPair run P None = HoldsIn run P (length run.places)
IsFirstPair run P (Some at) = IsFirstNot run P at.0 at.1
