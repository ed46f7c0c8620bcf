-- What a table tells of the things before one.
use Rattle.std.specs.Prelude.{ℕ, ◌≡◌, ◌<◌, ◌≤◌, List, slice_get, Option, Some, None}
use Rattle.hsr_recent_table.specs.Recent.{Knows, Put, horizon_of, latest, moment_of}
use Rattle.hsr_recent_table.specs.declared.table.RecentTable.{RecentTable}
use Rattle.hsr_recent_table.specs.declared.previous.Keyed.{Keyed}
use Rattle.hsr_recent_table.specs.declared.previous.Previous.{Previous}
use Rattle.hsr_recent_table.specs.Previous.{EachMoment, HasOther, IsLatestBefore}

-- what is put for a thing: its moment, its key and its index
abbrev pub put_for : Keyed → ℕ → Put
put_for thing i = record { at = thing.at; key = thing.key; value = i }

-- what was put last with a key tells of the latest thing before an index that has it
pub record IsToldBy (things : List Keyed) (key i : ℕ) (put : Put) : Type 0 where
  pub latest : IsLatestBefore things key i put.value
  pub moments : EachMoment things key i (λ at. at ≤ put.at)

abbrev pub IsTold : List Keyed → ℕ → ℕ → Option Put → Type 0
IsTold things key i None = (k : ℕ) → k < i → HasOther things key k
IsTold things key i (Some put) = IsToldBy things key i put

-- a table into which each thing before an index was put
pub record IsReady (horizon : ℕ) (things : List Keyed) (table : RecentTable) (i : ℕ) (puts : List Put) : Type 0 where
  pub knows : Knows table puts
  pub told : (key : ℕ) → IsTold things key i (latest key puts)
  pub before : (k : ℕ) (t : Keyed) → k < i → slice_get things k ≡ Some t → t.at ≤ moment_of table
  pub next : (t : Keyed) → slice_get things i ≡ Some t → moment_of table ≤ t.at
  pub forgets : horizon_of table ≡ horizon

-- the things before an index have come
abbrev pub HaveCome : ℕ → List Keyed → ℕ → Previous → Type 0
HaveCome horizon things i previous = (puts : List Put) × IsReady horizon things previous.table i puts

-- the moment of the last one
abbrev pub latest_of : Previous → ℕ
latest_of previous = moment_of previous.table
