-- A finished run with what its main worker brought about, as a contract sees it.
--     run_of         the run that a topology, records and rows are
--     IsPlanned      the plan is what the records tell of the main worker, node by node
--     IsFinished     what always holds of a run that was closed
use Rattle.std.specs.Prelude.{ℕ, ◌<◌, ◌≡◌, ◌==◌, List, length, map, filter_map, Option, Some, None, if◌then◌else◌, slice_index_or, Vec}
use Rattle.std.specs.Global.{Global}
use Rattle.hsr_node.specs.Kept.{Record}
use Rattle.hsr_node.specs.declared.entry.Entry.{Entry}
use Rattle.hsr_link.specs.declared.row.Row.{Row}
use Rattle.hsr_run_laws.specs.Closed.{IsClosed}
use Rattle.hsr_run_laws.specs.Run.{Run, record_of}
use Rattle.hsr_topology.specs.Topology.{Topology}
use Rattle.hsr_topology.specs.Wired.{IsWired}
use Rattle.hsr_finished_run.specs.declared.planned.Planned.{Planned}

pub record Finished : Type 0 where
  pub run : Run
  pub plan : List Planned

abbrev pub items_of : Vec Row Global → List Row
items_of rows = rows.items

abbrev pub run_of : ℕ → Topology → List Record → List (Vec Row Global) → Run
run_of capacity topology kept rows = record {
  capacity = capacity;
  places = topology.places;
  links = topology.links;
  records = map (λ (r : Record). r.entries) kept;
  rows = map items_of rows;
}

-- ---- the plan

-- what the main worker, number 0, brought about by an entry of a node
abbrev pub planned_by : ℕ → Entry → Option Planned
planned_by k x = if x.worker == 0 then Some (record { node = k; at = x.at; event = x.event }) else None

-- what is planned for a node
abbrev pub planned_for : ℕ → Planned → Option Planned
planned_for k x = if x.node == k then Some x else None

-- the plan has for a node what these entries of it tell of the main worker, in the same order
abbrev pub IsPlanOf : List Planned → ℕ → List Entry → Type 0
IsPlanOf plan k entries = filter_map (planned_for k) plan ≡ filter_map (planned_by k) entries

-- the plan has for each node what its record tells of the main worker, and nothing for other nodes
pub record IsPlanned (run : Run) (plan : List Planned) : Type 0 where
  pub nodes : (i : ℕ) (d : Planned) → i < length plan → (slice_index_or plan i d).node < length run.places
  pub each : (k : ℕ) → k < length run.places → IsPlanOf plan k (record_of run k)

-- ---- what always holds

pub record IsFinished (f : Finished) : Type 0 where
  pub wired : IsWired f.run.places f.run.links
  pub closed : IsClosed f.run
  pub planned : IsPlanned f.run f.plan
