-- The list of all devices.
--     device_text   the lines of a device
--     IsListing     the lines of all, with what the tables of each needed
use Rattle.std.specs.Prelude.{ℕ, zero, suc, ◌+◌, ◌<◌, ◌≡◌, ◌==◌, if◌then◌else◌, List, [], ◌∷◌, ◌++◌, codes, fold, length, map, max, slice_index_or, Option, Some, None}
use Rattle.std.specs.Fmt.{decimal}
use Rattle.std.specs.List.{flat_map, range_with_len}
use Rattle.hsr_frame.specs.declared.counters.Counters.{Counters}
use Rattle.hsr_node.specs.Counts.{counters}
use Rattle.hsr_node.specs.Place.{ports}
use Rattle.hsr_node.specs.Record.{now, rows}
use Rattle.hsr_node.specs.Words.{letters, role_in, role_word}
use Rattle.hsr_node.specs.declared.place.Place.{Place}
use Rattle.hsr_node.specs.declared.place.Place.TheVariants.{Danh, RedBox, QuadBox, Station}
use Rattle.hsr_run_laws.specs.Run.{Run, past_of, place_of, record_of}
use Rattle.hsr_timeline.specs.Names.{name_of, port_text}
use Rattle.hsr_table_demand.specs.Needs.{IsMostAt}
use Rattle.hsr_table_demand.specs.declared.most.Needed.{Needed}
use Rattle.hsr_devices.specs.Cells.{label_cell, right}
use Rattle.hsr_devices.specs.Counted.{SumsAre}
use Rattle.hsr_devices.specs.Describing.{addresses_text, known_text, unheard_text}
use Rattle.hsr_devices.specs.Known.{stations_known}
use Rattle.hsr_devices.specs.Lines.{arrivals_text, departures_text}
use Rattle.hsr_devices.specs.Port.{port_link}
use Rattle.hsr_devices.specs.Unheard.{unheard}
use Rattle.hsr_devices.specs.declared.listing.Amount.{Amount}
use Rattle.hsr_devices.specs.declared.listing.Amount.TheVariants.{LostIn, LostOut, OctetsIn, OctetsOut}
use Rattle.hsr_devices.specs.declared.port.PortLink.{PortLink}

-- ---- links

unfoldable pub links_at : Run → ℕ → ℕ → List (Option PortLink)
links_at run k n = map (λ port. port_link run (record { node = k; port = port })) (range_with_len 0 n)

-- what is told of a link, and of the link of a port: 0 where it has none
abbrev pub amount_in : Amount → PortLink → ℕ
amount_in LostIn link = link.lost_in
amount_in LostOut link = link.lost_out
amount_in OctetsIn link = link.octets_in
amount_in OctetsOut link = link.octets_out

abbrev pub amount_at : Amount → Option PortLink → ℕ
amount_at what None = 0
amount_at what (Some link) = amount_in what link

abbrev pub peer_text : List (List ℕ) → List Place → Option PortLink → List ℕ
peer_text names places None = codes "-"
peer_text names places (Some link) = port_text (codes ".") names places link.peer

-- a column that is at least so wide and has room for a text
abbrev pub wider : ℕ → List ℕ → ℕ
wider width text = max width (length text + 2)

-- ---- rows

abbrev pub letter_cell : ℕ → ℕ → List ℕ
letter_cell width letter = right width (letter ∷ [])

unfoldable pub ports_row : ℕ → Place → List ℕ
ports_row width place = label_cell (codes "  port") ++ flat_map (letter_cell width) (letters place) ++ right width (codes "node") ++ codes "\n"

unfoldable pub peers_row : ℕ → List (List ℕ) → List ℕ
peers_row width peers = label_cell (codes "  leads to") ++ flat_map (right width) peers ++ codes "\n"

-- ---- lines

unfoldable pub head_text : List (List ℕ) → ℕ → Place → List ℕ
head_text names k place = name_of names k ++ codes "  " ++ role_word (role_in place) ++ addresses_text place ++ codes "\n"

unfoldable pub sent_text : Counters → List ℕ
sent_text node = codes "  sent " ++ decimal node.sent ++ codes ", supervision " ++ decimal node.life ++ codes "\n"

abbrev pub needed_if : ℕ → Option (ℕ × ℕ) → List ℕ
needed_if n None = codes ", needed 0"
needed_if n (Some at) = codes ", needed " ++ decimal n ++ codes ", at entry " ++ decimal at.1

-- how many entries a duplicate table has, how many were needed, and the first entry of the record that needed as many
unfoldable pub table_text : ℕ → Needed → List ℕ
table_text entries needed = codes "  table of " ++ decimal entries ++ needed_if needed.entries needed.at ++ codes "\n"

unfoldable pub needed_text : Place → ℕ → Needed → List ℕ
needed_text (Danh mac mode) entries needed = table_text entries needed
needed_text (RedBox mac mode) entries needed = table_text entries needed
needed_text QuadBox entries needed = table_text entries needed
needed_text (Station macs) entries needed = []

-- supervision frames that couldn't be read, if there were any
unfoldable pub unreadable_line : ℕ → List ℕ
unreadable_line n = codes "  unreadable supervision " ++ decimal n ++ codes "\n"

unfoldable pub unreadable_if : ℕ → List ℕ
unreadable_if n = if n == 0 then [] else unreadable_line n

unfoldable pub known_at : List (List ℕ) → Run → ℕ → Place → List ℕ
known_at names run k place = known_text names run.places (rows place (past_of run k) (now (past_of run k))) (stations_known place (past_of run k))

-- of whom supervision never told a DANH or a RedBox
unfoldable pub unheard_at : List (List ℕ) → Run → ℕ → Place → List ℕ
unheard_at names run k (Danh mac mode) = unheard_text names (unheard run k)
unheard_at names run k (RedBox mac mode) = unheard_text names (unheard run k)
unheard_at names run k QuadBox = []
unheard_at names run k (Station macs) = []

-- ---- a device

-- what came to the ports of a node and what left by them, in columns of this width
unfoldable pub traffic_text : ℕ → Run → ℕ → Place → List (Option PortLink) → List ℕ
traffic_text width run k place links =
    arrivals_text width (record_of run k) (ports place) (counters place (past_of run k)) (map (amount_at OctetsIn) links) (map (amount_at LostIn) links)
    ++ departures_text width (record_of run k) (ports place) (counters place (past_of run k)) (map (amount_at OctetsOut) links) (map (amount_at LostOut) links)

-- the ports of a node as columns
unfoldable pub columns_text : List (List ℕ) → Run → ℕ → Place → List ℕ
columns_text names run k place =
    let links = links_at run k (ports place) in
    let peers = map (peer_text names run.places) links in
    let width = fold wider 10 peers in
    ports_row width place ++ peers_row width peers ++ traffic_text width run k place links

-- what it is and sent, its ports, its tables, what it couldn't read, what it knows, and of whom it never heard
unfoldable pub device_text : List (List ℕ) → Run → ℕ → Place → Needed → List ℕ
device_text names run k place needed =
    head_text names k place ++ sent_text (counters place (past_of run k)) ++ columns_text names run k place ++ needed_text place run.capacity needed
    ++ unreadable_if (counters place (past_of run k)).bad_life ++ known_at names run k place ++ unheard_at names run k place
    ++ codes "\n"

-- ---- all devices

abbrev pub no_need : Needed
no_need = record { entries = 0; at = None }

-- those of the nodes below one
abbrev pub devices_below : List (List ℕ) → Run → List Needed → ℕ → List ℕ
devices_below names run needed zero = []
devices_below names run needed (suc k) = devices_below names run needed k ++ device_text names run k (place_of run k) (slice_index_or needed k no_need)

-- this is what the tables of the nodes from the n-th on needed
abbrev pub AreMost : Run → ℕ → List Needed → Type 0
AreMost run n [] = Unit {0}
AreMost run n (m ∷ ms) = IsMostAt run n m × AreMost run (n + 1) ms

-- the lines of all devices
pub record IsListing (names : List (List ℕ)) (run : Run) (text : List ℕ) : Type 0 where
  pub needed : List Needed
  pub many : length needed ≡ length run.places
  pub each : AreMost run 0 needed
  pub lines : text ≡ devices_below names run needed (length run.places)

-- what is counted at the ports of each node sums up to its counters
abbrev pub AreSums : Run → Type 0
AreSums run = (k : ℕ) → k < length run.places → SumsAre (record_of run k) (counters (place_of run k) (past_of run k))
