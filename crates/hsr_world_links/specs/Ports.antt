-- The ports of a world by their numbers, 8 for each node, each with the directions of a link in which it receives and sends.
use Rattle.std.specs.Prelude.{ℕ, ◌+◌, ◌*◌, ◌/◌, ◌%◌, ◌==◌, ◌&&◌, nat_lt, ◌≡◌, ◌≤◌, Bool, false, if◌then◌else◌, List, [], ◌∷◌, length, map, is_some, slice_index_or, Option, Some, None, option_map}
use Rattle.std.specs.List.{range_with_len}
use Rattle.hsr_topology.specs.Links.{is_same_end}
use Rattle.hsr_topology.specs.declared.end.End.{End}
use Rattle.hsr_link.specs.Rows.{first_copy}
use Rattle.hsr_link.specs.declared.row.Dir.{Dir}
use Rattle.hsr_link.specs.declared.row.Dir.TheVariants.{Forth, Back}
use Rattle.hsr_node.specs.Kept.{Record}
use Rattle.hsr_node.specs.Place.{ports}
use Rattle.hsr_node.specs.declared.place.Place.{Place}
use Rattle.hsr_node.specs.declared.place.Place.TheVariants.{QuadBox}
use Rattle.hsr_world_laws.specs.Spans.{Span, Spot, lane_of, spot_from}
use Rattle.hsr_world_links.specs.Views.{spot_view}
use Rattle.hsr_world_laws.specs.World.{span_in, waits_in}
use Rattle.hsr_world_links.specs.declared.port.Port.{Port}
use Rattle.hsr_world_links.specs.declared.spot.Spot as code-spot
use Rattle.hsr_world_steps.specs.declared.step.WorldFault.{WorldFault}
use Rattle.hsr_world_steps.specs.declared.step.WorldFault.TheVariants.{NoSuchNode, NoSuchPort}

-- the places of these nodes
abbrev pub places_of : List Record → List Place
places_of nodes = map (λ (r : Record). r.place) nodes

-- the first reason why there is no such port
abbrev pub port_fault : List Place → ℕ → ℕ → Option WorldFault
port_fault places n port =
    if nat_lt n (length places) then (if nat_lt port (ports (slice_index_or places n QuadBox)) then None else Some NoSuchPort) else Some NoSuchNode

-- the direction in which the port at an end receives, among the spans from the k-th on
abbrev pub spot_to : End → ℕ → List Span → Option Spot
spot_to end k [] = None
spot_to end k (span ∷ spans) =
    if is_same_end span.forth.to end then Some (record { link = k; dir = Forth })
    else (if is_same_end span.back.to end then Some (record { link = k; dir = Back }) else spot_to end (k + 1) spans)

abbrev pub spot_code : Spot → code-spot.Spot
spot_code spot = record { link = spot.link; dir = spot.dir }

-- the end of a number, and the number of an end
abbrev pub end_at : ℕ → End
end_at k = record { node = k / 8; port = k % 8 }

abbrev pub port_number : End → ℕ
port_number end = 8 * end.node + end.port

abbrev pub no_port : Port
no_port = record { into = None; out = None }

-- the port at an end, if there is no fault about it
abbrev pub port_if : Option WorldFault → List Span → End → Port
port_if None spans end = record { into = option_map spot_code (spot_to end 0 spans); out = option_map spot_code (spot_from end 0 spans) }
port_if (Some fault) spans end = no_port

-- the port of a number
abbrev pub port_at : List Place → List Span → ℕ → Port
port_at places spans k = port_if (port_fault places (k / 8) (k % 8)) spans (end_at k)

-- all ports
abbrev pub ports_in : List Place → List Span → List Port
ports_in places spans = map (port_at places spans) (range_with_len 0 (8 * length places))

abbrev pub port_in : List Port → ℕ → Port
port_in ports k = slice_index_or ports k no_port

abbrev pub port_of : List Port → End → Port
port_of ports end = if nat_lt end.node 64 && nat_lt end.port 8 then port_in ports (port_number end) else no_port

-- whether a copy is in the hand of a direction
abbrev pub held_at : List Span → Option Spot → Bool
held_at spans None = false
held_at spans (Some spot) = is_some (lane_of spot.dir (span_in spans spot.link)).hand

-- whether the port of a number holds a copy, and whether it has one to put
abbrev pub is_held : List Port → List Span → ℕ → Bool
is_held ports spans k = held_at spans (option_map spot_view (port_in ports k).into)

abbrev pub is_waiting : List Port → List Span → ℕ → Bool
is_waiting ports spans k = waits_in spans (option_map spot_view (port_in ports k).out)

-- the direction of a number, 2 for each link; whether a copy waits there
abbrev pub dir_at : ℕ → Dir
dir_at k = if k % 2 == 0 then Forth else Back

abbrev pub is_ready : List Span → ℕ → Bool
is_ready spans k = is_some (first_copy (dir_at k) (span_in spans (k / 2)).link.rows)

-- the ports are those of these nodes and spans
pub record AreTold (places : List Place) (spans : List Span) (ports : List Port) : Type 0 where
  pub few : length places ≤ 64
  pub is : ports ≡ ports_in places spans
