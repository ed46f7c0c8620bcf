-- The rows of the page's data, as JSON. A list ends with a 0, so that each of its rows ends with a comma; -1 stands for no number, and an
-- empty text for none.
--     node_row    name, role, mode, addresses
--     link_row    node and port of both ends
--     entry_row   node, place, moment, step, event, node and place of the send that came, port, cause, up, ports, number
--     send_row    node, place, moment, destination, source, VLAN control, type, octets, about, due, missed, twice, strayed, lost
--     copy_row    link, direction, fate, node and place of the entry that passed it, those of the entry that judged it
--     down_row    link, moment and place of the cut, those of the end
use Rattle.std.specs.Prelude.{ℕ, Bool, false, if◌then◌else◌, List, [], ◌∷◌, ◌++◌, codes, length, Option, Some, None}
use Rattle.std.specs.Fmt.{decimal}
use Rattle.std.specs.List.{flat_map}
use Rattle.hsr_frame.specs.Words.{cause_word, mode_word}
use Rattle.hsr_frame.specs.declared.node.About.{About}
use Rattle.hsr_frame.specs.declared.node.About.TheVariants.{Own, Proxied}
use Rattle.hsr_text.specs.Words.{mac_text}
use Rattle.hsr_node.specs.Record.{has_port, number_in}
use Rattle.hsr_node.specs.Words.{letter, role_in, role_word}
use Rattle.hsr_node.specs.declared.entry.Entry.{Entry}
use Rattle.hsr_node.specs.declared.event.Event.{Event}
use Rattle.hsr_node.specs.declared.event.Event.TheVariants.{Send, Supervise, Arrive, Age}
use Rattle.hsr_node.specs.declared.event.Outcome.{Outcome}
use Rattle.hsr_node.specs.declared.event.Outcome.TheVariants.{Sent, Life, Judged, Aged}
use Rattle.hsr_node.specs.declared.event.Probe.{Probe}
use Rattle.hsr_node.specs.declared.place.Place.{Place}
use Rattle.hsr_node.specs.declared.place.Place.TheVariants.{Danh, RedBox, QuadBox, Station}
use Rattle.hsr_link.specs.Words.{dir_word, fate_word}
use Rattle.hsr_link.specs.declared.row.Row.{Row}
use Rattle.hsr_topology.specs.declared.end.End.{End}
use Rattle.hsr_timeline.specs.Names.{letter_if}
use Rattle.hsr_timeline.specs.declared.origin.Spot.{Spot}
use Rattle.hsr_deliveries.specs.Delivered.{Delivery}
use Rattle.hsr_diagram.specs.declared.arrow.Arrow.{Arrow}
use Rattle.hsr_downs.specs.declared.changing.Change.{Change}
use Rattle.hsr_downs.specs.declared.downing.Down.{Down}
use Rattle.hsr_downs.specs.declared.draining.Drain.{Drain}
use Rattle.hsr_page.specs.Lists.{numbers_text}
use Rattle.hsr_run_page.specs.declared.entries.Stamped.{Stamped}

-- ---- cells, each with a comma behind it

abbrev pub number_cell : ℕ → List ℕ
number_cell n = decimal n ++ codes ","

abbrev pub number_or : Option ℕ → List ℕ
number_or None = codes "-1,"
number_or (Some n) = number_cell n

-- a word that needs no escape
unfoldable pub word_cell : List ℕ → List ℕ
word_cell word = codes "\"" ++ (word ++ codes "\",")

-- a list of numbers
abbrev pub numbers_cell : List ℕ → List ℕ
numbers_cell ns = numbers_text ns ++ codes ","

-- an entry: its node, its place
abbrev pub spot_cells : Spot → List ℕ
spot_cells spot = number_cell spot.node ++ number_cell spot.place

abbrev pub spot_or : Option Spot → List ℕ
spot_or None = codes "-1,-1,"
spot_or (Some spot) = spot_cells spot

abbrev pub probe_cells : Probe → List ℕ
probe_cells probe = number_cell probe.node ++ number_cell probe.place

abbrev pub probe_or : Option Probe → List ℕ
probe_or None = codes "-1,-1,"
probe_or (Some probe) = probe_cells probe

-- ---- nodes and links

abbrev pub mode_in : Place → List ℕ
mode_in (Danh mac mode) = mode_word mode
mode_in (RedBox mac mode) = mode_word mode
mode_in QuadBox = []
mode_in (Station macs) = []

abbrev pub mac_cell : List ℕ → List ℕ
mac_cell mac = word_cell (mac_text mac)

abbrev pub mac_cells : Place → List ℕ
mac_cells (Danh mac mode) = mac_cell mac
mac_cells (RedBox mac mode) = mac_cell mac
mac_cells QuadBox = []
mac_cells (Station macs) = flat_map mac_cell macs.items

-- a node with a name as it is spelled in JSON
unfoldable pub node_row : List ℕ → Place → List ℕ
node_row name place =
    codes "[" ++ (name ++ (codes "," ++ (word_cell (role_word (role_in place)) ++ (word_cell (mode_in place) ++ (codes "[" ++ (mac_cells place ++ codes "0]],"))))))

unfoldable pub end_cells : Option Place → End → List ℕ
end_cells place end = number_cell end.node ++ word_cell (letter_if place end.port)

-- ---- entries

abbrev pub event_word : Event → List ℕ
event_word (Send from dst vlan ethertype payload) = codes "send"
event_word (Supervise about) = codes "life"
event_word (Arrive port carried) = codes "arrive"
event_word Age = codes "age"

abbrev pub came_of : Event → Option Probe
came_of (Arrive port carried) = carried.probe
came_of _ = None

abbrev pub port_in : Place → Event → List ℕ
port_in place (Arrive port carried) = letter place port ∷ []
port_in place _ = []

unfoldable pub event_cells : Place → Event → List ℕ
event_cells place event = word_cell (event_word event) ++ (probe_or (came_of event) ++ word_cell (port_in place event))

abbrev pub cause_in : Outcome → List ℕ
cause_in (Judged up ports seq cause) = cause_word cause
cause_in _ = []

abbrev pub up_in : Outcome → Bool
up_in (Judged up ports seq cause) = up
up_in _ = false

abbrev pub ports_in : Outcome → List Bool
ports_in (Sent seq ports) = ports
ports_in (Life seq life ports) = ports
ports_in (Judged up ports seq cause) = ports
ports_in Aged = []

-- the letter of a port by which something leaves
abbrev pub port_text : Place → List Bool → ℕ → List ℕ
port_text place ports port = if has_port ports port then letter place port ∷ [] else []

unfoldable pub ports_text : Place → List Bool → List ℕ
ports_text place ports = port_text place ports 0 ++ (port_text place ports 1 ++ (port_text place ports 2 ++ port_text place ports 3))

abbrev pub flag_cell : Bool → List ℕ
flag_cell is = if is then codes "1," else codes "0,"

unfoldable pub outcome_cells : Place → Outcome → List ℕ
outcome_cells place outcome =
    word_cell (cause_in outcome) ++ (flag_cell (up_in outcome) ++ (word_cell (ports_text place (ports_in outcome)) ++ number_or (number_in outcome)))

unfoldable pub stamp_cells : Stamped → List ℕ
stamp_cells s = number_cell s.node ++ (number_cell s.place ++ (number_cell s.moment ++ number_cell s.step))

unfoldable pub entry_row : Place → Stamped → Entry → List ℕ
entry_row place s x = codes "[" ++ (stamp_cells s ++ (event_cells place x.event ++ (outcome_cells place x.outcome ++ codes "0],")))

-- ---- sends

abbrev pub about_word : About → List ℕ
about_word Own = []
about_word (Proxied mac) = mac_text mac

-- the place of its source among a Station's addresses, VLAN control, type and octets of a send's payload, none of which is told; whom supervision is about
abbrev pub sent_cells : Event → List ℕ
sent_cells (Send from dst vlan ethertype payload) =
    number_cell from ++ (number_or vlan ++ (number_cell ethertype ++ (number_cell (length payload) ++ word_cell [])))
sent_cells (Supervise about) = codes "0,-1,-1,-1," ++ word_cell (about_word about)
sent_cells _ = codes "0,-1,-1,-1,\"\","

abbrev pub sent_if : Option Entry → List ℕ
sent_if None = codes "0,-1,-1,-1,\"\","
sent_if (Some x) = sent_cells x.event

unfoldable pub got_cells : Delivery → List ℕ
got_cells d =
    numbers_cell d.due ++ (numbers_cell d.missed ++ (numbers_cell d.twice ++ (numbers_cell d.strayed ++ number_cell (length d.lost))))

unfoldable pub send_row : Option Entry → Delivery → List ℕ
send_row x d = codes "[" ++ (probe_cells d.send ++ (number_cell d.at ++ (mac_cell d.dst ++ (sent_if x ++ (got_cells d ++ codes "0],")))))

-- ---- copies

unfoldable pub row_cells : ℕ → Row → List ℕ
row_cells link row = number_cell link ++ (word_cell (dir_word row.dir) ++ word_cell (fate_word row.fate))

unfoldable pub copy_row : Arrow → Row → List ℕ
copy_row arrow row = codes "[" ++ (row_cells arrow.row.link row ++ (spot_or arrow.passed ++ (spot_or arrow.judged ++ codes "0],")))

-- ---- what a scenario says

-- a moment, and how many sends, supervisions and ages stand before it
abbrev pub change_cells : Change → List ℕ
change_cells change = number_cell change.moment ++ number_cell change.planned

abbrev pub end_or : Option Change → List ℕ
end_or None = codes "-1,-1,"
end_or (Some change) = change_cells change

unfoldable pub down_row : Down → List ℕ
down_row down = codes "[" ++ (number_cell down.cut.link ++ (change_cells down.cut ++ (end_or down.end ++ codes "0],")))

unfoldable pub drain_row : Drain → List ℕ
drain_row drain = codes "[" ++ (number_cell drain.moment ++ (number_cell drain.planned ++ codes "0],"))
