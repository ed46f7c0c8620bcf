-- What a node is, and what it knows, in words.
use Rattle.std.specs.Prelude.{ℕ, Bool, false, List, [], ◌∷◌, ◌++◌, codes, position, Option, Some, None}
use Rattle.std.specs.Fmt.{decimal}
use Rattle.std.specs.List.{flat_map}
use Rattle.hsr_frame.specs.Words.{mode_word}
use Rattle.hsr_supervision.specs.declared.payload.SupKind.{SupKind}
use Rattle.hsr_supervision.specs.declared.payload.SupKind.TheVariants.{PrpDiscard, PrpAccept, Hsr}
use Rattle.hsr_tables.specs.declared.nodes.NodeRow.{NodeRow}
use Rattle.hsr_timeline.specs.Names.{name_of}
use Rattle.hsr_node.specs.declared.place.Place.{Place}
use Rattle.hsr_node.specs.declared.place.Place.TheVariants.{Danh, RedBox, QuadBox, Station}
use Rattle.hsr_node.specs.Place.{owns}
use Rattle.hsr_text.specs.Words.{mac_text}

-- ---- addresses

abbrev pub next_mac : List ℕ → List ℕ
next_mac mac = codes "  " ++ mac_text mac

abbrev pub macs_text : List (List ℕ) → List ℕ
macs_text macs = flat_map next_mac macs

abbrev pub addresses_text : Place → List ℕ
addresses_text (Danh mac mode) = next_mac mac ++ codes "  mode " ++ mode_word mode
addresses_text (RedBox mac mode) = next_mac mac ++ codes "  mode " ++ mode_word mode
addresses_text QuadBox = []
addresses_text (Station macs) = macs_text macs.items

-- ---- whose an address is

abbrev pub owner_in : List Place → List ℕ → Option ℕ
owner_in places mac = position (λ place. owns place mac) places

abbrev pub owner_if : List (List ℕ) → Option ℕ → List ℕ
owner_if names None = []
owner_if names (Some node) = codes " (" ++ name_of names node ++ codes ")"

unfoldable pub who_text : List (List ℕ) → List Place → List ℕ → List ℕ
who_text names places mac = mac_text mac ++ owner_if names (owner_in places mac)

-- ---- what a node knows

abbrev pub kind_text : SupKind → List ℕ
kind_text PrpDiscard = codes "  PRP, discards"
kind_text PrpAccept = codes "  PRP, accepts"
kind_text Hsr = codes "  HSR"

abbrev pub redbox_if : List (List ℕ) → List Place → Option (List ℕ) → List ℕ
redbox_if names places None = []
redbox_if names places (Some mac) = codes ", behind " ++ who_text names places mac

-- the moment at which a node was heard on a port
abbrev pub heard_if : List ℕ → Option ℕ → List ℕ
heard_if port None = []
heard_if port (Some moment) = codes ", on " ++ port ++ codes " at " ++ decimal moment ++ codes " us"

-- a node that is known, by its supervision frames
unfoldable pub node_row_text : List (List ℕ) → List Place → NodeRow → List ℕ
node_row_text names places row =
    codes "  knows " ++ who_text names places row.mac ++ kind_text row.kind ++ redbox_if names places row.redbox ++ heard_if (codes "A") row.heard_a
    ++ heard_if (codes "B") row.heard_b ++ codes "\n"

-- a station that is known on the interlink, with its latest moment
unfoldable pub station_text : List (List ℕ) → List Place → List ℕ × ℕ → List ℕ
station_text names places station = codes "  knows " ++ who_text names places station.0 ++ codes "  station, at " ++ decimal station.1 ++ codes " us\n"

-- nodes of which supervision never told a node
abbrev pub next_name : List (List ℕ) → ℕ → List ℕ
next_name names node = codes ", " ++ name_of names node

abbrev pub parted_names : List (List ℕ) → ℕ → List ℕ → List ℕ
parted_names names node nodes = name_of names node ++ flat_map (next_name names) nodes

abbrev pub unheard_text : List (List ℕ) → List ℕ → List ℕ
unheard_text names [] = []
unheard_text names (node ∷ nodes) = codes "  never heard " ++ parted_names names node nodes ++ codes "\n"

abbrev pub known_text : List (List ℕ) → List Place → List NodeRow → List (List ℕ × ℕ) → List ℕ
known_text names places nodes stations = flat_map (node_row_text names places) nodes ++ flat_map (station_text names places) stations
