-- The effective moments of a run, as lists of numbers.
--     moments_recorded   those of a record's entries
--     moments_of         those of all entries, by node
--     moment_in          that of an entry
use Rattle.std.specs.Prelude.{ℕ, List, [], ◌∷◌, ◌++◌, map, reverse, slice_index_or, Vec}
use Rattle.std.specs.Global.{Global}
use Rattle.hsr_node.specs.Record.{now}
use Rattle.hsr_node.specs.declared.entry.Entry.{Entry}
use Rattle.hsr_node.specs.declared.event.Probe.{Probe}
use Rattle.hsr_run_laws.specs.Run.{Run}

-- those of a past's entries, the oldest first
abbrev pub moments_in : List Entry → List ℕ
moments_in [] = []
moments_in (x ∷ past) = moments_in past ++ now (x ∷ past) ∷ []

-- those of a record as it is kept, the oldest entry first
abbrev pub moments_recorded : List Entry → List ℕ
moments_recorded entries = moments_in (reverse entries)

-- those of all entries, by node
abbrev pub moments_of : Run → List (List ℕ)
moments_of run = map moments_recorded run.records

-- lists in memory, as lists
abbrev pub items_of : Vec ℕ Global → List ℕ
items_of v = v.items

abbrev pub lists_of : List (Vec ℕ Global) → List (List ℕ)
lists_of vs = map items_of vs

-- the moment of an entry, 0 where there is no such entry
abbrev pub moment_in : List (List ℕ) → Probe → ℕ
moment_in moments here = slice_index_or (slice_index_or moments here.node []) here.place 0
