-- A table of what was put into it lately: what it finds, and what it may have forgotten.
use Rattle.std.specs.Prelude.{ℕ, ◌≡◌, ◌+◌, ◌≤◌, ◌==◌, nat_eq, List, find, Option, Some, None}
use Rattle.std.specs.HashMap.{get}
use Rattle.hsr_recent_table.specs.declared.table.RecentTable.{RecentTable}

-- what was put: when, with which key, which value
pub record Put : Type 0 where
  pub at : ℕ
  pub key : ℕ
  pub value : ℕ

abbrev pub value_of : Put → ℕ
value_of put = put.value

-- of what was put, the latest first, the latest with a key
abbrev pub latest : ℕ → List Put → Option Put
latest key puts = find (λ put. put.key == key) puts

abbrev pub moment_of : RecentTable → ℕ
moment_of t = t.moment

abbrev pub horizon_of : RecentTable → ℕ
horizon_of t = t.horizon

-- What the younger and the older part have at a key, beside what was put last with it: the younger part has what was put since the last
-- turn, the older one what was put in the turn before, and what is in neither was put a horizon before the last turn.
abbrev pub KnowsKey : ℕ → ℕ → ℕ → Option ℕ → Option ℕ → Option Put → Type 0
KnowsKey since horizon moment (Some value) old (Some put) = (put.value ≡ value) × (put.at ≤ moment)
KnowsKey since horizon moment (Some value) old None = ⊥
KnowsKey since horizon moment None (Some value) (Some put) = (put.value ≡ value) × (put.at ≤ since)
KnowsKey since horizon moment None (Some value) None = ⊥
KnowsKey since horizon moment None None (Some put) = put.at + horizon ≤ since
KnowsKey since horizon moment None None None = Unit {0}

-- the table has what was put, as far as it has to
pub record Knows (t : RecentTable) (puts : List Put) : Type 0 where
  pub each : (key : ℕ) → KnowsKey t.since t.horizon t.moment (get nat_eq t.newer key) (get nat_eq t.older key) (latest key puts)
  pub turned : t.since ≤ t.moment
