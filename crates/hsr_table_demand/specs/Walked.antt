-- The most that was needed so far, by node and then place.
--     IsBefore       a place comes before another
--     needs_at       how many notes the entry at a place needs
--     walked         what was needed before, after the first entries of a node too
--     IsMostBefore   the most that the entries before a place need, and where first
use Rattle.std.specs.Prelude.{ℕ, zero, suc, ◌+◌, ◌<◌, ◌≤◌, ◌≡◌, ◌⊎◌, nat_lt, if◌then◌else◌, length, reverse, take, Option, Some, None}
use Rattle.hsr_run_laws.specs.Run.{Run, owner_of, record_of}
use Rattle.hsr_table_demand.specs.Logged.{needs_of}
use Rattle.hsr_table_demand.specs.declared.most.Needed.{Needed}

abbrev pub nothing_needed : Needed
nothing_needed = record { entries = 0; at = None }

-- n are needed at a place, after what was needed before it
abbrev pub or_more : Needed → ℕ → ℕ → ℕ → Needed
or_more needed n k i = if nat_lt needed.entries n then record { entries = n; at = Some (k, i) } else needed

-- place i of node k comes before place j of node l
abbrev pub IsBefore : ℕ → ℕ → ℕ → ℕ → Type 0
IsBefore k i l j = (k < l) ⊎ ((k ≡ l) × (i < j))

abbrev pub needs_at : Run → ℕ → ℕ → ℕ
needs_at run k i = needs_of (owner_of run k) (reverse (take (i + 1) (record_of run k)))

-- what was needed before, after the first entries of a node too
abbrev pub walked : Run → ℕ → Needed → ℕ → Needed
walked run k before zero = before
walked run k before (suc i) = or_more (walked run k before i) (needs_at run k i) k i

-- at this place, before another, n are needed, and before it fewer
pub record IsFoundBefore (run : Run) (l j n k i : ℕ) : Type 0 where
  pub some : 0 < n
  pub place : i < length (record_of run k)
  pub here : IsBefore k i l j
  pub needs : needs_at run k i ≡ n
  pub first : (m h : ℕ) → h < length (record_of run m) → IsBefore m h k i → needs_at run m h < n

abbrev pub IsMetBefore : Run → ℕ → ℕ → ℕ → Option (ℕ × ℕ) → Type 0
IsMetBefore run l j n None = n ≡ 0
IsMetBefore run l j n (Some at) = IsFoundBefore run l j n at.0 at.1

pub record IsMostBefore (run : Run) (l j : ℕ) (needed : Needed) : Type 0 where
  pub most : (k i : ℕ) → i < length (record_of run k) → IsBefore k i l j → needs_at run k i ≤ needed.entries
  pub met : IsMetBefore run l j needed.entries needed.at
