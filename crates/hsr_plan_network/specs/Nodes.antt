-- The nodes of a network.
use Rattle.std.specs.Prelude.{ℕ, ◌+◌, ◌%◌, ◌==◌, Bool, List, [], ◌∷◌, ◌++◌, length, map, filter, slice_get, position, Option, Some, None, codes, if◌then◌else◌}
use Rattle.std.specs.List.{list_any}
use Rattle.std.specs.Str.{bytes_eq}
use Rattle.hsr_frame.specs.declared.node.Mode.{Mode}
use Rattle.hsr_frame.specs.declared.node.Mode.TheVariants.{H}
use Rattle.hsr_node.specs.declared.place.Place.{Place}
use Rattle.hsr_node.specs.declared.place.Place.TheVariants.{Danh, RedBox, QuadBox, Station}
use Rattle.hsr_plan_text.specs.Plan.{Behind, Network}
use Rattle.hsr_plan_text.specs.declared.plan.Addressed.{Addressed}
use Rattle.hsr_plan_text.specs.declared.plan.InMode.{InMode}
use Rattle.hsr_plan_network.specs.Checks.{in_one}
use Rattle.hsr_plan_network.specs.Names.{is_in, met, met_first, number}

-- a node with its name, and the names of the stations that a Station is
pub record Node : Type 0 where
  pub name : List ℕ
  pub place : Place
  pub stations : List (List ℕ)

-- ---- addresses and modes

-- 02-00-00-0x-RR-NN, where RR and NN count from 1
abbrev pub usual_mac : ℕ → ℕ → ℕ → List ℕ
usual_mac x r n = 2 ∷ 0 ∷ 0 ∷ x ∷ ((r + 1) % 256) ∷ ((n + 1) % 256) ∷ []

abbrev pub mac_if : Option Addressed → List ℕ → List ℕ
mac_if None usual = usual
mac_if (Some a) usual = a.mac

abbrev pub given_at : {A : Type 0} → List A → Option ℕ → Option A
given_at xs None = None
given_at xs (Some k) = slice_get xs k

-- the address of a name that a plan gives, or else the usual one
abbrev pub mac_or : List Addressed → List ℕ → List ℕ → List ℕ
mac_or addresses n usual = mac_if (given_at addresses (position (λ a. bytes_eq a.name n) addresses)) usual

abbrev pub mode_if : Option InMode → Mode
mode_if None = H
mode_if (Some m) = m.mode

abbrev pub mode_for : List InMode → List ℕ → Mode
mode_for modes n = mode_if (given_at modes (position (λ m. bytes_eq m.name n) modes))

abbrev pub ring_if : Option (List (List ℕ)) → List ℕ → ℕ
ring_if None n = 0
ring_if (Some ring) n = number ring n

-- a node's address: by the ring in which it is met first, and its index there
abbrev pub node_mac : Network → List ℕ → List ℕ
node_mac network n =
    mac_or network.addresses n (usual_mac 0 (met_first network.rings n) (ring_if (slice_get network.rings (met_first network.rings n)) n))

-- ---- ring nodes

abbrev pub is_box : List Behind → List ℕ → Bool
is_box bs n = list_any (λ b. bytes_eq b.redbox n) bs

-- a name in one ring is a RedBox or a DANH, a name in two is a QuadBox
abbrev pub place_of : Network → List ℕ → Place
place_of network n = if in_one network.rings n
    then (if is_box network.redboxes n then RedBox (node_mac network n) (mode_for network.modes n) else Danh (node_mac network n) (mode_for network.modes n))
    else QuadBox

abbrev pub ring_node : Network → List ℕ → Node
ring_node network n = record { name = n; place = place_of network n; stations = [] }

-- ---- Stations

abbrev pub behind_if : Option Behind → List (List ℕ)
behind_if None = []
behind_if (Some b) = b.stations

-- the stations behind a RedBox
abbrev pub behind : List Behind → List ℕ → List (List ℕ)
behind bs n = behind_if (given_at bs (position (λ b. bytes_eq b.redbox n) bs))

-- a station's address: by its RedBox among the RedBoxes, and its index there
abbrev pub station_mac : Network → List (List ℕ) → List ℕ → List ℕ → List ℕ
station_mac network boxes box n = mac_or network.addresses n (usual_mac 1 (number boxes box) (number (behind network.redboxes box) n))

-- the one Station behind a RedBox
abbrev pub station_node : Network → List (List ℕ) → List ℕ → Node
station_node network boxes box = record {
  name = box ++ codes "-sans";
  place = Station (record { items = map (station_mac network boxes box) (behind network.redboxes box) });
  stations = behind network.redboxes box;
}

-- ---- all

-- the names of the ring nodes, each once, where it is met first
abbrev pub names_of : Network → List (List ℕ)
names_of network = met [] network.rings

-- the names of RedBoxes among names
abbrev pub boxes_of : Network → List (List ℕ) → List (List ℕ)
boxes_of network names = filter (is_box network.redboxes) names

-- ring nodes, then Stations
abbrev pub nodes_of : Network → List Node
nodes_of network =
    map (ring_node network) (names_of network) ++ map (station_node network (boxes_of network (names_of network))) (boxes_of network (names_of network))
