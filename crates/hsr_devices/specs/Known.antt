-- What a record lets its node know.
--     stations_known   the stations that a RedBox knows
--     nodes_of         what a node table has of a record
use Rattle.std.specs.Prelude.{ℕ, List, [], ◌∷◌, fold, Option, Some, None}
use Rattle.hsr_frame.specs.declared.node.RingPort.{RingPort}
use Rattle.hsr_tables.specs.Known.{known, latest_heard}
use Rattle.hsr_tables.specs.Nodes.{Nodes, heard as node_heard, no_nodes}
use Rattle.hsr_node.specs.Record.{heard, hearings_from, hears_on, now}
use Rattle.hsr_node.specs.declared.entry.Entry.{Entry}
use Rattle.hsr_node.specs.declared.place.Place.{Place}
use Rattle.hsr_node.specs.declared.place.Place.TheVariants.{Danh, RedBox}

-- the stations that are known after a record, each with its latest moment
abbrev pub stations_known : Place → List Entry → List (List ℕ × ℕ)
stations_known place past = known (now past) (latest_heard (λ h. h.0) (heard place past))

-- the ring port that a port is, of a node that hears supervision frames, and its address
abbrev pub own_with : Place → RingPort → Option (List ℕ × RingPort)
own_with (Danh mac mode) x = Some (mac, x)
own_with (RedBox mac mode) x = Some (mac, x)
own_with place x = None

abbrev pub with_own : Place → Option RingPort → Option (List ℕ × RingPort)
with_own place None = None
with_own place (Some x) = own_with place x

abbrev pub hears_with : Place → ℕ → Option (List ℕ × RingPort)
hears_with place port = with_own place (hears_on place port)

-- a node table that heard a record
abbrev pub nodes_of : Place → List Entry → Nodes
nodes_of place [] = no_nodes
nodes_of place (x ∷ past) = fold node_heard (nodes_of place past) (hearings_from place (now (x ∷ past)) x.event)
