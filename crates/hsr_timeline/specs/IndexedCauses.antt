-- What an index has of causes, and of the main worker's entries.
use Rattle.std.specs.Prelude.{ℕ, ◌&&◌, nat_eq, List, [], slice_get, slice_index_or, Option}
use Rattle.indexmap.specs.IndexMap.{IndexMap, get}
use Rattle.hsr_node.specs.declared.entry.Entry.{Entry}
use Rattle.hsr_run_index.specs.Turns.{holds_from}
use Rattle.hsr_timeline.specs.declared.origin.Spot.{Spot}
use Rattle.hsr_timeline.specs.Hops.{spot_at}

abbrev pub value_of : {S : Type 0} → IndexMap (ℕ × ℕ) Spot S → Spot → Option Spot
value_of causes spot = get (λ x y. nat_eq x.0 y.0 && nat_eq x.1 y.1) causes (spot.node, spot.place)

abbrev pub mains_of : List Entry → List ℕ
mains_of entries = holds_from 0 entries 0

abbrev pub main_by : List (List ℕ) → ℕ → ℕ → Option Spot
main_by records node count = spot_at node (slice_get (slice_index_or records node []) count)
