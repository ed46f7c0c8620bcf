-- What a contract sees of a `Link`, and its steps.
use Rattle.std.specs.Prelude.{ℕ, Bool, true, false, List, [], ◌∷◌, ◌++◌, map, Option}
use Rattle.std.specs.List.{count_by}
use Rattle.hsr_node.specs.declared.event.Carried.{Carried}
use Rattle.hsr_link.specs.Rows.{first_copy, is_queued, lost, put_fate, turned, waits}
use Rattle.hsr_link.specs.declared.row.Dir.{Dir}
use Rattle.hsr_link.specs.declared.row.Fate.{Fate}
use Rattle.hsr_link.specs.declared.row.Fate.TheVariants.{Taken}
use Rattle.hsr_link.specs.declared.row.Row.{Row}

-- the rows, the first put first; whether it is cut; how many copies may wait in each direction
pub record Link : Type 0 where
  pub rows : List Row
  pub is_cut : Bool
  pub capacity : ℕ

abbrev pub new_link : ℕ → Link
new_link capacity = record { rows = []; is_cut = false; capacity = capacity }

-- what becomes of a copy that is put: LostDown on a cut link, else LostOverrun where as many rows of its direction
-- are Queued as the capacity, else Queued
abbrev pub fate_of : Link → Dir → Fate
fate_of link dir = put_fate link.is_cut (count_by (waits dir) link.rows) link.capacity

-- one row more
abbrev pub add_step : Link → Dir → Carried → Bool → Fate × Link
add_step link dir carried injected =
    let fate = fate_of link dir in
    (fate, record link { rows = link.rows ++ record { dir = dir; carried = carried; injected = injected; fate = fate } ∷ [] })

abbrev pub put_step : Link → Dir → Carried → Fate × Link
put_step link dir carried = add_step link dir carried false

abbrev pub inject_step : Link → Dir → Carried → Fate × Link
inject_step link dir carried = add_step link dir carried true

-- the first Queued row of the direction is Taken, and its copy is the answer
abbrev pub take_step : Link → Dir → Option Carried × Link
take_step link dir = (first_copy dir link.rows, record link { rows = turned Taken dir link.rows })

-- every Queued row is LostCut, and their number is the answer
abbrev pub cut_step : Link → ℕ × Link
cut_step link = (count_by (λ row. is_queued row.fate) link.rows, record link { rows = map lost link.rows; is_cut = true })

abbrev pub mended : Link → Link
mended link = record link { is_cut = false }
