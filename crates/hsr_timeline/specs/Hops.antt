-- The hops of a finished run: each copy that was put on a link, with the entry that passed it and the entry that judged it.
--     passed_places   of a direction, row by row, the places of the entries that passed the copies
--     hop_of          that of a row
--     hops            those of all rows, by link and index
use Rattle.std.specs.Prelude.{ℕ, zero, suc, ◌+◌, List, [], ◌∷◌, ◌++◌, length, map, Option, option_map}
use Rattle.hsr_node.specs.Record.{Owner}
use Rattle.hsr_node.specs.declared.entry.Entry.{Entry}
use Rattle.hsr_node.specs.declared.event.Carried.{Carried}
use Rattle.hsr_link.specs.declared.row.Dir.{Dir}
use Rattle.hsr_link.specs.declared.row.Row.{Row}
use Rattle.hsr_topology.specs.declared.end.End.{End}
use Rattle.hsr_run_laws.specs.Run.{Run, ends_of, from_end, owner_of, record_of, rows_of, to_end}
use Rattle.hsr_run_index.specs.InOrder.{came_by, passed_by, copy_of_passage}
use Rattle.hsr_run_index.specs.declared.agreement.Passage.TheVariants.{Put, Taken}
use Rattle.hsr_timeline.specs.declared.origin.Spot.{Spot}
use Rattle.hsr_timeline.specs.declared.hop.Hop.{Hop}
use Rattle.hsr_timeline.specs.Partners.{partner, partners}

-- what each entry passed by a port, the n-th entry first
abbrev pub passed_from : Owner → ℕ → ℕ → List Entry → List (Option Carried)
passed_from owner port n [] = []
passed_from owner port n (x ∷ xs) = passed_by owner port n x ∷ passed_from owner port (n + 1) xs

abbrev pub passed_at : Run → End → List (Option Carried)
passed_at run end = passed_from (owner_of run end.node) end.port 0 (record_of run end.node)

-- what each entry let in by a port
abbrev pub came_at : Run → End → List (Option Carried)
came_at run end = map (came_by end.port) (record_of run end.node)

-- the place of the entry that passed the copy of a row, and of the entry that judged it
abbrev pub passed_place : Run → ℕ → Dir → ℕ → Option ℕ
passed_place run l dir j =
    partner (passed_at run (from_end dir (ends_of run l))) (map (copy_of_passage Put dir) (rows_of run l)) j

abbrev pub judged_place : Run → ℕ → Dir → ℕ → Option ℕ
judged_place run l dir j = partner (came_at run (to_end dir (ends_of run l))) (map (copy_of_passage Taken dir) (rows_of run l)) j

-- those of the entries that passed, of a direction, row by row; none where a row is of the other one
abbrev pub passed_places : Run → ℕ → Dir → List (Option ℕ)
passed_places run l dir = partners (passed_at run (from_end dir (ends_of run l))) (map (copy_of_passage Put dir) (rows_of run l))

abbrev pub spot_at : ℕ → Option ℕ → Option Spot
spot_at node place = option_map (λ p. record { node = node; place = p }) place

-- the hop of a row
abbrev pub hop_of : Run → ℕ → ℕ → Row → Hop
hop_of run l j row = record {
  link = l;
  number = j;
  passed = spot_at ((from_end row.dir (ends_of run l)).node) (passed_place run l row.dir j);
  judged = spot_at ((to_end row.dir (ends_of run l)).node) (judged_place run l row.dir j);
}

-- those of a link, from its n-th row on
abbrev pub hops_from : Run → ℕ → ℕ → List Row → List Hop
hops_from run l n [] = []
hops_from run l n (row ∷ rows) = hop_of run l n row ∷ hops_from run l (n + 1) rows

-- those of the links below one
abbrev pub hops_below : Run → ℕ → List Hop
hops_below run zero = []
hops_below run (suc l) = hops_below run l ++ hops_from run l 0 (rows_of run l)

abbrev pub hops : Run → List Hop
hops run = hops_below run (length run.links)
