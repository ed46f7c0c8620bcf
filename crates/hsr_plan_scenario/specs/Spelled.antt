-- How the scenario of a plan is spelled in TOML: one line for each node, each link and each order, behind comments.
--     node_line, link_line, order_line   such a line
--     summary_text                       the comment that counts nodes, links and sends
--     scenario_text                      the whole
use Rattle.std.specs.Prelude.{ℕ, zero, suc, ◌+◌, nat_lt, List, [], ◌∷◌, ◌++◌, codes, length, slice_get, Option, Some, None, if◌then◌else◌}
use Rattle.std.specs.Fmt.{decimal}
use Rattle.std.specs.List.{flat_map}
use Rattle.hex.specs.Hex.{encode_upper}
use Rattle.hsr_frame.specs.Address.{address_text}
use Rattle.hsr_frame.specs.Grammar.{pair}
use Rattle.hsr_frame.specs.declared.node.About.{About}
use Rattle.hsr_frame.specs.declared.node.About.TheVariants.{Own, Proxied}
use Rattle.hsr_frame.specs.declared.node.Mode.{Mode}
use Rattle.hsr_frame.specs.declared.node.Mode.TheVariants.{H, N, U}
use Rattle.hsr_node.specs.Words.{letter}
use Rattle.hsr_node.specs.declared.place.Place.{Place}
use Rattle.hsr_node.specs.declared.place.Place.TheVariants.{Danh, RedBox, QuadBox, Station}
use Rattle.hsr_link.specs.Words.{dir_word}
use Rattle.hsr_link.specs.declared.row.Dir.{Dir}
use Rattle.hsr_world_steps.specs.declared.step.Step as steps
use Rattle.hsr_world_steps.specs.declared.step.Step.TheVariants.{Clock, Send, Supervise, Age, Put, Take, Judge, Cut, Mend, Inject}
use Rattle.hsr_topology.specs.declared.end.End.{End}
use Rattle.hsr_scenario.specs.declared.steps.Order.{Order}
use Rattle.hsr_scenario.specs.declared.steps.Order.TheVariants.{Step, Drain}
use Rattle.hsr_table_demand.specs.Windows.{most_in}
use Rattle.hsr_plan_text.specs.Plan.{Outline}
use Rattle.hsr_plan_text.specs.declared.plan.Moves.{Moves}
use Rattle.hsr_plan_text.specs.declared.plan.Moves.TheVariants.{EachSendDrains, EachMomentDrains, Timed}
use Rattle.hsr_plan_text.specs.declared.plan.Transfer.{Transfer}
use Rattle.hsr_plan_text.specs.declared.plan.Transfer.TheVariants as transfer
use Rattle.hsr_plan_text.specs.declared.plan.Switching.{Switching}
use Rattle.hsr_plan_text.specs.declared.plan.Switching.TheVariants.{Store, Cut}
use Rattle.hsr_plan_text.specs.declared.plan.Wire.{Wire}
use Rattle.hsr_plan_network.specs.Nodes.{Node}
use Rattle.hsr_plan_schedule.specs.Meaning.{Meaning}
use Rattle.hsr_plan_scenario.specs.Sends.{next_stream, send_moments, sends_behind}

-- ---- words

-- a text for each of a list, by its number, from some number on
abbrev pub numbered : {X : Type 0} → (ℕ → X → List ℕ) → ℕ → List X → List ℕ
numbered text k [] = []
numbered text k (x ∷ xs) = text k x ++ numbered text (k + 1) xs

-- a comma before each word but the first
abbrev pub comma : ℕ → List ℕ
comma zero = []
comma (suc k) = codes ", "

abbrev pub parted : {X : Type 0} → (X → List ℕ) → ℕ → X → List ℕ
parted word k x = comma k ++ word x

abbrev pub listed : {X : Type 0} → (X → List ℕ) → List X → List ℕ
listed word xs = numbered (parted word) 0 xs

unfoldable pub digits_text : List ℕ → List ℕ
digits_text mac = address_text mac

-- an address in quotes
unfoldable pub mac_text : List ℕ → List ℕ
mac_text mac = codes "\"" ++ digits_text mac ++ codes "\""

-- the name of a node; a hyphen, where there is no such node
abbrev pub name_or : Option Node → List ℕ
name_or None = codes "-"
name_or (Some node) = node.name

abbrev pub name_of : List Node → ℕ → List ℕ
name_of nodes k = name_or (slice_get nodes k)

-- in quotes
unfoldable pub name_text : List Node → ℕ → List ℕ
name_text nodes k = codes "\"" ++ name_of nodes k ++ codes "\""

abbrev pub letter_or : Option Node → ℕ → ℕ
letter_or None port = 63
letter_or (Some node) port = letter node.place port

-- a port of a node, in quotes
unfoldable pub port_text : List Node → ℕ → ℕ → List ℕ
port_text nodes k port = codes "\"" ++ name_of nodes k ++ codes "." ++ letter_or (slice_get nodes k) port ∷ [] ++ codes "\""

-- ---- nodes and links

abbrev pub mode_text : Mode → List ℕ
mode_text H = []
mode_text N = codes ", mode=\"N\""
mode_text U = codes ", mode=\"U\""

unfoldable pub role_text : List ℕ → List ℕ
role_text role = codes ", role=\"" ++ role ++ codes "\""

unfoldable pub ring_place_text : List ℕ → List ℕ → Mode → List ℕ
ring_place_text role mac mode = role_text role ++ codes ", mac=" ++ mac_text mac ++ mode_text mode

unfoldable pub station_text : List (List ℕ) → List ℕ
station_text macs = role_text (codes "station") ++ codes ", macs=[" ++ listed mac_text macs ++ codes "]"

abbrev pub place_text : Place → List ℕ
place_text (Danh mac mode) = ring_place_text (codes "danh") mac mode
place_text (RedBox mac mode) = ring_place_text (codes "redbox") mac mode
place_text QuadBox = role_text (codes "quadbox")
place_text (Station macs) = station_text macs.items

-- the names of the stations that a Station is, as a comment
abbrev pub stations_text : List (List ℕ) → List ℕ
stations_text [] = []
stations_text (name ∷ names) = codes "  # " ++ listed (λ n. n) (name ∷ names)

unfoldable pub node_line : Node → List ℕ
node_line node = codes "  {name=\"" ++ node.name ++ codes "\"" ++ place_text node.place ++ codes "}," ++ stations_text node.stations ++ codes "\n"

unfoldable pub ends_line : List Node → ℕ → End → End → List ℕ
ends_line nodes l one other =
    codes "  {ends=[" ++ port_text nodes one.node one.port ++ codes ", " ++ port_text nodes other.node other.port ++ codes "]},  # " ++ decimal l ++ codes "\n"

abbrev pub link_line : List Node → ℕ → List End → List ℕ
link_line nodes l (one ∷ other ∷ []) = ends_line nodes l one other
link_line nodes l _ = []

abbrev pub link_lines : List Node → List (List End) → List ℕ
link_lines nodes links = numbered (link_line nodes) 0 links

-- ---- orders

unfoldable pub does_text : List ℕ → List ℕ
does_text does = codes "do=\"" ++ does ++ codes "\""

-- what is done at a node, a port or a link
unfoldable pub at_node : List ℕ → List Node → ℕ → List ℕ
at_node does nodes k = does_text does ++ codes ", node=" ++ name_text nodes k

unfoldable pub at_port : List ℕ → List Node → ℕ → ℕ → List ℕ
at_port does nodes k port = does_text does ++ codes ", port=" ++ port_text nodes k port

unfoldable pub at_link : List ℕ → ℕ → List ℕ
at_link does l = does_text does ++ codes ", link=" ++ decimal l

unfoldable pub clock_text : ℕ → List ℕ
clock_text at = does_text (codes "clock") ++ codes ", at=" ++ decimal at

-- octets in hexadecimal
unfoldable pub octets_text : List ℕ → List ℕ → List ℕ
octets_text key octets = codes ", " ++ key ++ codes "=\"" ++ encode_upper octets ++ codes "\""

-- the place of a sender's address, if it isn't the first
abbrev pub from_text : ℕ → List ℕ
from_text from = if nat_lt 0 from then codes ", from=" ++ decimal from else []

-- to whom what is sent
unfoldable pub frame_text : List ℕ → ℕ → List ℕ → List ℕ
frame_text dst ethertype payload =
    codes ", to=" ++ mac_text dst ++ codes ", type=0x" ++ encode_upper (pair ethertype) ++ octets_text (codes "payload") payload

abbrev pub vlan_text : Option ℕ → List ℕ
vlan_text None = []
vlan_text (Some vlan) = codes ", vlan=0x" ++ encode_upper (pair vlan)

-- the stream from which a frame is
unfoldable pub stream_text : List ℕ → List ℕ
stream_text name = codes ", stream=\"" ++ name ++ codes "\""

abbrev pub about_text : About → List ℕ
about_text Own = []
about_text (Proxied mac) = codes ", about=" ++ mac_text mac

unfoldable pub dir_text : Dir → List ℕ
dir_text dir = codes ", dir=\"" ++ dir_word dir ++ codes "\""

-- where a frame is from the stream of that name
abbrev pub step_text : List Node → List ℕ → steps.Step → List ℕ
step_text nodes name (Clock at) = clock_text at
step_text nodes name (Send k from dst vlan ethertype payload) =
    at_node (codes "send") nodes k ++ from_text from ++ frame_text dst ethertype payload ++ vlan_text vlan ++ stream_text name
step_text nodes name (Supervise k about) = at_node (codes "life") nodes k ++ about_text about
step_text nodes name (Age k) = at_node (codes "age") nodes k
step_text nodes name (Put k port) = at_port (codes "put") nodes k port
step_text nodes name (Take l dir) = at_link (codes "take") l ++ dir_text dir
step_text nodes name (Judge k port) = at_port (codes "judge") nodes k port
step_text nodes name (Cut l) = at_link (codes "cut") l
step_text nodes name (Mend l) = at_link (codes "mend") l
step_text nodes name (Inject l dir octets) = at_link (codes "inject") l ++ dir_text dir ++ octets_text (codes "octets") octets

abbrev pub order_text : List Node → List ℕ → Order → List ℕ
order_text nodes name (Step step) = step_text nodes name step
order_text nodes name Drain = does_text (codes "drain")

unfoldable pub order_line : List Node → List ℕ → Order → List ℕ
order_line nodes name order = codes "  {" ++ order_text nodes name order ++ codes "},\n"

-- the lines of orders, where the streams have these names, and the frames that are sent are from streams of these numbers
abbrev pub order_lines : List Node → List (List ℕ) → List ℕ → List Order → List ℕ
order_lines nodes streams sends [] = []
order_lines nodes streams sends (order ∷ orders) =
    order_line nodes (next_stream streams sends) order ++ order_lines nodes streams (sends_behind order sends) orders

-- ---- the whole

-- a title as a comment, if there is one
abbrev pub title_text : Option (List ℕ) → List ℕ
title_text None = []
title_text (Some title) = codes "# " ++ title ++ codes "\n"

abbrev pub switching_text : Switching → List ℕ
switching_text Store = codes "store"
switching_text Cut = codes "cut"

unfoldable pub wire_text : Wire → List ℕ
wire_text wire = codes "wire " ++ decimal wire.rate ++ codes " Mbit/s, " ++ decimal wire.residence ++ codes " us, " ++ switching_text wire.switching

abbrev pub transfer_text : Transfer → List ℕ
transfer_text (transfer.Hop us) = codes "hop_us = " ++ decimal us
transfer_text (transfer.Wire wire) = wire_text wire

-- how copies move, as a plan tells it
abbrev pub moves_text : Moves → List ℕ
moves_text EachSendDrains = codes "each send drains"
moves_text EachMomentDrains = codes "each moment drains"
moves_text (Timed transfer) = transfer_text transfer

-- how many nodes and links there are
unfoldable pub sizes_text : ℕ → ℕ → List ℕ
sizes_text nodes links = codes "# " ++ decimal nodes ++ codes " nodes, " ++ decimal links ++ codes " links, "

-- how many sends, by their moments, and how many of these in 800 milliseconds at most
unfoldable pub sends_text : List ℕ → List ℕ
sends_text sends = decimal (length sends) ++ codes " sends, at most " ++ decimal (most_in sends) ++ codes " in 800 ms; copies: "

-- both, and how copies move
unfoldable pub counts_text : ℕ → ℕ → List ℕ → Moves → List ℕ
counts_text nodes links sends moves = sizes_text nodes links ++ sends_text sends ++ moves_text moves ++ codes "\n"

-- that of what is meant
unfoldable pub summary_text : Moves → Meaning → List ℕ
summary_text moves m = counts_text (length m.nodes) (length m.topology.links) (send_moments 0 m.orders) moves

unfoldable pub nodes_text : List Node → List ℕ
nodes_text nodes = codes "node = [\n" ++ flat_map node_line nodes ++ codes "]\n"

unfoldable pub links_text : List Node → List (List End) → List ℕ
links_text nodes links = codes "link = [\n" ++ link_lines nodes links ++ codes "]\n"

-- where no capacity is said, and more sends may be under way at once than the largest holds, their number
abbrev pub crowd_text : Option ℕ → ℕ → List ℕ
crowd_text (Some said) sends = []
crowd_text None sends = if nat_lt 4096 sends then codes "  # the most that there is: up to " ++ decimal sends ++ codes " sends may be under way at once" else []

-- what ends the line of the capacity
unfoldable pub room_text : Option ℕ → ℕ → List ℕ
room_text said sends = crowd_text said sends ++ codes "\n"

-- what stands before the orders
unfoldable pub front_text : Outline → Meaning → List ℕ
front_text outline m =
    title_text outline.title ++ summary_text outline.moves m ++ codes "unit = \"us\"\ncapacity = " ++ decimal m.capacity ++ room_text outline.capacity m.at_once ++ nodes_text m.nodes
    ++ links_text m.nodes m.topology.links ++ codes "step = [\n"

-- the scenario that is meant, with what the plan says besides
unfoldable pub scenario_text : Outline → Meaning → List ℕ
scenario_text outline m = front_text outline m ++ order_lines m.nodes m.streams m.sends m.orders ++ codes "]\n"
