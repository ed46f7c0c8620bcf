-- What the links of a topology may be.
use Rattle.std.specs.Prelude.{◌+◌, option_map, if◌then◌else◌, ℕ, ◌==◌, ◌||◌, ◌&&◌, not, nat_lt, Bool, true, false, List, [], ◌∷◌, ◌++◌, slice_get, Option, Some, None}
use Rattle.std.specs.List.{list_any}
use Rattle.std.specs.Option.{option_or}
use Rattle.hsr_frame.specs.Cases.{first_of}
use Rattle.hsr_node.specs.declared.place.Place.{Place}
use Rattle.hsr_node.specs.declared.place.Place.TheVariants.{RedBox, Station}
use Rattle.hsr_node.specs.Place.{ports}
use Rattle.hsr_topology.specs.declared.end.End.{End}
use Rattle.hsr_topology.specs.declared.fault.TopologyFault.{TopologyFault}
use Rattle.hsr_topology.specs.declared.fault.TopologyFault.TheVariants.{NoSuchPort, PortTwice, WrongPeer}

-- ---- one end

abbrev pub is_same_end : End → End → Bool
is_same_end a b = (a.node == b.node) && (a.port == b.port)

-- the place has a port of this number
abbrev pub is_port_of : Option Place → ℕ → Bool
is_port_of None port = false
is_port_of (Some place) port = nat_lt port (ports place)

-- there is such a node, and it has such a port
abbrev pub has_port : List Place → End → Bool
has_port places end = is_port_of (slice_get places end.node) end.port

-- the interlink of a redbox is its third port
abbrev pub is_interlink_of : Option Place → ℕ → Bool
is_interlink_of (Some (RedBox mac mode)) port = port == 2
is_interlink_of _ port = false

abbrev pub is_interlink : List Place → End → Bool
is_interlink places end = is_interlink_of (slice_get places end.node) end.port

abbrev pub is_a_station : Option Place → Bool
is_a_station (Some (Station macs)) = true
is_a_station _ = false

abbrev pub is_station : List Place → End → Bool
is_station places end = is_a_station (slice_get places end.node)

-- an interlink must face a station
abbrev pub faces_wrongly : List Place → End → End → Bool
faces_wrongly places end peer = is_interlink places end && not (is_station places peer)

-- ---- one link, after others

abbrev pub is_end_of : End → List End → Bool
is_end_of end link = list_any (is_same_end end) link

-- one of the links has this end
abbrev pub is_used : List (List End) → End → Bool
is_used links end = list_any (is_end_of end) links

-- the first case that fits a link from a to b
abbrev pub fault_between : List Place → List (List End) → End → End → Option TopologyFault
fault_between places earlier a b = first_of (
    (not (has_port places a) || not (has_port places b), Some NoSuchPort)
    ∷ (is_used earlier a || is_used earlier b || is_same_end b a, Some PortTwice)
    ∷ ((a.node == b.node) || faces_wrongly places a b || faces_wrongly places b a, Some WrongPeer)
    ∷ []) None

-- what has not two ends is no link
abbrev pub link_fault : List Place → List (List End) → List End → Option TopologyFault
link_fault places earlier [] = Some NoSuchPort
link_fault places earlier (a ∷ []) = Some NoSuchPort
link_fault places earlier (a ∷ b ∷ []) = fault_between places earlier a b
link_fault places earlier (a ∷ b ∷ c ∷ ends) = Some NoSuchPort

-- ---- all links

-- the fault of the first that has one, of links that follow others
abbrev pub links_fault : List Place → List (List End) → List (List End) → Option TopologyFault
links_fault places earlier [] = None
links_fault places earlier (link ∷ links) = option_or (link_fault places earlier link) (links_fault places (earlier ++ link ∷ []) links)

-- ---- the link of a port

-- where a link has this end, whether it is the first
abbrev pub is_first_in : End → List End → Option Bool
is_first_in end [] = None
is_first_in end (a ∷ ends) = if is_same_end end a then Some true else (if list_any (is_same_end end) ends then Some false else None)

-- the number of the first link that has this end, where they are numbered from n on, and whether it is its first
abbrev pub link_from : ℕ → List (List End) → End → Option (ℕ × Bool)
link_from n [] end = None
link_from n (link ∷ links) end = option_or (option_map (λ first. (n, first)) (is_first_in end link)) (link_from (n + 1) links end)
