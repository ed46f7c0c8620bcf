-- The copies that a record and rows tell of, the first first.
use Rattle.std.specs.Prelude.{ℕ, ◌+◌, ◌≡◌, ⊤, List, [], ◌∷◌, filter_map, Option, Some, None, option_map, IsPermutation}
use Rattle.std.specs.List.{cons_option}
use Rattle.hsr_node.specs.Copies.{copy_octets}
use Rattle.hsr_node.specs.Flow.{arrivals, copy_at, passes}
use Rattle.hsr_node.specs.Kept.{Record, owner_of, past_of}
use Rattle.hsr_node.specs.Record.{Owner, probe_handled}
use Rattle.hsr_node.specs.declared.entry.Entry.{Entry}
use Rattle.hsr_node.specs.declared.event.Carried.{Carried}
use Rattle.hsr_link.specs.Rows.{put_copies, put_copy, taken_copies, taken_copy}
use Rattle.hsr_link.specs.declared.row.Dir.{Dir}
use Rattle.hsr_link.specs.declared.row.Row.{Row}
use Rattle.hsr_run_index.specs.declared.agreement.Passage.{Passage}
use Rattle.hsr_run_index.specs.declared.agreement.Passage.TheVariants.{Put, Taken}
use Rattle.hsr_run_index.specs.declared.passing.Seen.{Seen}
use Rattle.hsr_run_index.specs.declared.passing.Seen.TheVariants.{Nothing, This, Other}

-- the copy of a row that was put, or taken
abbrev pub copy_of_passage : Passage → Dir → Row → Option Carried
copy_of_passage Put = put_copy
copy_of_passage Taken = taken_copy

-- those of rows
abbrev pub copies_of_passage : Passage → Dir → List Row → List Carried
copies_of_passage which dir rows = filter_map (copy_of_passage which dir) rows

-- the copy that the n-th entry of a record let leave by a port
abbrev pub passed_by : Owner → ℕ → ℕ → Entry → Option Carried
passed_by owner port n x =
    option_map (λ octets. record { probe = probe_handled (record { node = owner.number; place = n }) x.event; octets = octets })
    (copy_octets owner.place x.event x.outcome port)

-- what an entry passed is nothing, or this copy; of another copy no more is asked
abbrev pub IsSeenAs : Carried → Option Carried → Seen → Type 0
IsSeenAs copy passed Nothing = passed ≡ None
IsSeenAs copy passed This = passed ≡ Some copy
IsSeenAs copy passed Other = ⊤

-- those that the entries from the n-th on did
abbrev pub passed : Owner → ℕ → ℕ → List Entry → List Carried
passed owner port n [] = []
passed owner port n (x ∷ xs) = cons_option (passed_by owner port n x) (passed owner port (n + 1) xs)

abbrev pub came_by : ℕ → Entry → Option Carried
came_by port x = copy_at port x.event

-- those that came to a port
abbrev pub came : ℕ → List Entry → List Carried
came port entries = filter_map (came_by port) entries

-- what was put in a direction is what a node passed by a port, each as often
abbrev pub PutsFit : Record → ℕ → Dir → List Row → Type 0
PutsFit r port dir rows = IsPermutation (passes (owner_of r) port (past_of r)) (put_copies dir rows)

-- what was taken in a direction is what came to a port of a node
abbrev pub TakensFit : Record → ℕ → Dir → List Row → Type 0
TakensFit r port dir rows = IsPermutation (taken_copies dir rows) (arrivals port (past_of r))
