-- The nodes and links of a network.
--     HasAddress   an address of a node's own
--     is_edge      a port at which frames carry no tag
--     Channel      a direction of a link
--     IsNetwork    a network
use Rattle.std.specs.Prelude.{ℕ, ◌<◌, ◌≡◌, ◌==◌, Bool, true, false, List, length, slice_get, Some}
use Rattle.hsr_frame.specs.Address.{is_among, is_group}
use Rattle.hsr_frame.specs.declared.node.Mode.{Mode}
use Rattle.hsr_frame.specs.declared.node.Mode.TheVariants.{H, N, U}
use Rattle.hsr_node.specs.Place.{ports}
use Rattle.hsr_node.specs.declared.place.Place.{Place}
use Rattle.hsr_node.specs.declared.place.Place.TheVariants.{Danh, RedBox, QuadBox, Station}
use Rattle.hsr_link.specs.declared.row.Dir.{Dir}
use Rattle.hsr_topology.specs.declared.end.End.{End}
use Rattle.hsr_run_laws.specs.Run.{Run, ends_of, from_end, place_of, to_end}

-- ---- nodes

-- a mode in which frames go round a ring
abbrev pub goes_round : Mode → Bool
goes_round H = true
goes_round N = false
goes_round U = true

-- a DANH or a RedBox in mode H or U, a QuadBox or a Station
abbrev pub is_in_h_or_u : Place → Bool
is_in_h_or_u (Danh mac mode) = goes_round mode
is_in_h_or_u (RedBox mac mode) = goes_round mode
is_in_h_or_u QuadBox = true
is_in_h_or_u (Station macs) = true

-- an address of a node's own
abbrev pub HasAddress : Place → List ℕ → Type 0
HasAddress (Danh mac mode) address = address ≡ mac
HasAddress (RedBox mac mode) address = address ≡ mac
HasAddress QuadBox address = ⊥
HasAddress (Station macs) address = (i : ℕ) × (slice_get macs.items i ≡ Some address)

abbrev pub is_station : Place → Bool
is_station (Danh mac mode) = false
is_station (RedBox mac mode) = false
is_station QuadBox = false
is_station (Station macs) = true

-- a Station with this address
abbrev pub is_station_with : List ℕ → Place → Bool
is_station_with address (Danh mac mode) = false
is_station_with address (RedBox mac mode) = false
is_station_with address QuadBox = false
is_station_with address (Station macs) = is_among macs.items address

-- ---- ports

-- a Station's port, or the interlink of a RedBox; the other ports are on rings
abbrev pub is_edge : Place → ℕ → Bool
is_edge (Danh mac mode) port = false
is_edge (RedBox mac mode) port = port == 2
is_edge QuadBox port = false
is_edge (Station macs) port = true

abbrev pub is_edge_of : Run → End → Bool
is_edge_of run end = is_edge (place_of run end.node) end.port

abbrev pub is_station_of : Run → End → Bool
is_station_of run end = is_station (place_of run end.node)

-- a port that is there
pub record IsPortOf (run : Run) (end : End) : Type 0 where
  pub node : end.node < length run.places
  pub port : end.port < ports (place_of run end.node)

-- ---- links

-- a direction of a link
pub record Channel : Type 0 where
  pub link : ℕ
  pub dir : Dir

abbrev pub start_of : Run → Channel → End
start_of run channel = from_end channel.dir (ends_of run channel.link)

abbrev pub stop_of : Run → Channel → End
stop_of run channel = to_end channel.dir (ends_of run channel.link)

-- The nodes are DANHs and RedBoxes in mode H or U, QuadBoxes and Stations, with addresses of their own, none a group's. A link
-- ends at ports that are there, both on rings, or both edges, one of them a Station's. No port is in two links.
pub record IsNetwork (run : Run) : Type 0 where
  pub modes : (k : ℕ) → k < length run.places → is_in_h_or_u (place_of run k) ≡ true
  pub single : (k : ℕ) (mac : List ℕ) → k < length run.places → HasAddress (place_of run k) mac → is_group mac ≡ false
  pub differ : (i j : ℕ) (mac : List ℕ) → i < length run.places → j < length run.places → HasAddress (place_of run i) mac → HasAddress (place_of run j) mac → i ≡ j
  pub ends : (channel : Channel) → channel.link < length run.links → IsPortOf run (start_of run channel)
  pub sides : (channel : Channel) → channel.link < length run.links → is_edge_of run (start_of run channel) ≡ is_edge_of run (stop_of run channel)
  pub faces : (channel : Channel) → channel.link < length run.links → is_edge_of run (start_of run channel) ≡ true → is_station_of run (start_of run channel) ≡ false → is_station_of run (stop_of run channel) ≡ true
  pub apart : (channel other : Channel) → channel.link < length run.links → other.link < length run.links → start_of run channel ≡ start_of run other → stop_of run channel ≡ stop_of run other
