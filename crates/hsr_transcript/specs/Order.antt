-- The order of the main worker's entries.
--     IsOrder      a plan has these nodes in order, and is for each node what its record tells of the main worker
--     OrderTold    the plan of an order, or that no plan has it
use Rattle.std.specs.Prelude.{ℕ, ◌≡◌, ◌<◌, ◌+◌, List, [], ◌∷◌, length, map, drop, filter_map, slice_index_or, Option, Some, None}
use Rattle.std.specs.List.{cons_option}
use Rattle.hsr_node.specs.declared.entry.Entry.{Entry}
use Rattle.hsr_finished_run.specs.Finished.{IsPlanOf, planned_by, planned_for}
use Rattle.hsr_run_laws.specs.Run.{record_in}
use Rattle.hsr_finished_run.specs.declared.planned.Planned.{Planned}

pub record IsOrder (main : List ℕ) (records : List (List Entry)) (plan : List Planned) : Type 0 where
  pub nodes : map (λ p. p.node) plan ≡ main
  pub each : (k : ℕ) → IsPlanOf plan k (record_in records k)

abbrev pub OrderTold : List ℕ → List (List Entry) → Option (List Planned) → Type 0
OrderTold main records (Some plan) = IsOrder main records plan
OrderTold main records None = (plan : List Planned) → ¬ IsOrder main records plan

-- ---- on the way

-- what the main worker brought about, as an entry of this node tells it
abbrev pub planned_at : ℕ → Entry → Planned
planned_at k x = record { node = k; at = x.at; event = x.event }

-- the first of the main worker's entries from a place on, and those behind it
abbrev pub IsNext : List Entry → ℕ → Option ℕ → Type 0
IsNext entries from None = (k : ℕ) → filter_map (planned_by k) (drop from entries) ≡ []
IsNext entries from (Some i) = (i < length entries)
    × ((k : ℕ) (d : Entry) → filter_map (planned_by k) (drop from entries) ≡ planned_at k (slice_index_or entries i d) ∷ filter_map (planned_by k) (drop (i + 1) entries))

-- what is left of the main worker's entries of a node, behind the number of its entries that were passed
abbrev pub left_in : List (List Entry) → List ℕ → ℕ → List Planned
left_in records passed k = filter_map (planned_by k) (drop (slice_index_or passed k 0) (record_in records k))

-- a node's turn: its next entry is taken, or it has none
abbrev pub Turned : List (List Entry) → List ℕ → List ℕ → ℕ → Option Planned → Type 0
Turned records old new turn None = left_in records old turn ≡ []
Turned records old new turn (Some planned) = (planned.node ≡ turn) × ((k : ℕ) → left_in records old k ≡ cons_option (planned_for k planned) (left_in records new k))
