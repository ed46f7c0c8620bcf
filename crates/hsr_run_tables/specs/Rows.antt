-- The rows of the tables of a finished run, each cell by its text. A cell of something that isn't there is empty.
--     node_row      a node, with its counters
--     link_row      a link, with what became of its copies
--     send_row      a send, and who got it
--     load_row      what a channel carried
--     latency_row   how long sends took to a node
--     finding_row   what the audit found
use Rattle.std.specs.Prelude.{ℕ, Bool, true, false, List, [], ◌∷◌, ◌++◌, length, count_by, codes, Option, Some, None}
use Rattle.std.specs.Fmt.{decimal}
use Rattle.std.specs.List.{join_by}
use Rattle.hsr_text.specs.Words.{mac_text}
use Rattle.hsr_frame.specs.Counters.{dropped}
use Rattle.hsr_frame.specs.declared.counters.Counters.{Counters}
use Rattle.hsr_options.specs.declared.chosen.Scope.{Scope}
use Rattle.hsr_options.specs.declared.chosen.Scope.TheVariants.{Network, Ring}
use Rattle.hsr_node.specs.Counts.{counters}
use Rattle.hsr_node.specs.Words.{role_in, role_word}
use Rattle.hsr_node.specs.declared.event.Probe.{Probe}
use Rattle.hsr_node.specs.declared.place.Place.{Place}
use Rattle.hsr_node.specs.declared.role.Role.{Role}
use Rattle.hsr_link.specs.Rows.{is_lost}
use Rattle.hsr_link.specs.declared.row.Dir.TheVariants.{Forth}
use Rattle.hsr_link.specs.declared.row.Fate.{Fate}
use Rattle.hsr_link.specs.declared.row.Fate.TheVariants.{Queued, Taken, LostDown, LostCut, LostOverrun}
use Rattle.hsr_link.specs.declared.row.Row.{Row}
use Rattle.hsr_topology.specs.declared.end.End.{End}
use Rattle.hsr_run_laws.specs.Run.{Run, ends_of, from_end, past_of, place_of, rows_of, to_end}
use Rattle.hsr_naming.specs.Naming.{node_text, port_text, send_text}
use Rattle.hsr_naming.specs.declared.naming.Naming.{Naming}
use Rattle.hsr_report.specs.DeliveryLines.{loss_text}
use Rattle.hsr_deliveries.specs.Delivered.{Delivery, is_complete}
use Rattle.hsr_deliveries.specs.declared.loss.Loss.{Loss}
use Rattle.hsr_load.specs.declared.load.ChannelLoad.{ChannelLoad}
use Rattle.hsr_latency.specs.declared.delay.Delay.{Delay}
use Rattle.hsr_latency.specs.declared.latency.NodeLatency.{NodeLatency}
use Rattle.hsr_audit.specs.declared.doubt.Doubt.{Doubt}
use Rattle.hsr_audit.specs.declared.doubt.Doubt.TheVariants.{NotRing, Empty, Mode, SameAddress, Side, TwoLinks, Forgot, Mistaken, NumberedLate, CutOff, UnknownStation, Uncovered}
use Rattle.hsr_report.specs.declared.finding.Finding.{Finding}
use Rattle.hsr_report.specs.declared.finding.Finding.TheVariants as finding

-- ---- lists in a cell

-- nodes, parted by spaces
abbrev pub nodes_text : Naming → List ℕ → List ℕ
nodes_text naming ks = join_by (node_text naming) (codes " ") ks

-- losses, parted by spaces
abbrev pub losses_text : List Loss → List ℕ
losses_text losses = join_by loss_text (codes " ") losses

-- ---- nodes

unfoldable pub node_cells : Naming → ℕ → Role → Counters → List (List ℕ)
node_cells naming k role c =
    node_text naming k ∷ role_word role ∷ decimal c.sent ∷ decimal c.life ∷ decimal c.up ∷ decimal c.forwarded ∷ decimal c.duplicate ∷ decimal c.returned
    ∷ decimal (dropped c) ∷ []

-- a node: its role, and how often each thing happened there
abbrev pub node_row : Naming → Run → ℕ → List (List ℕ)
node_row naming run k = node_cells naming k (role_in (place_of run k)) (counters (place_of run k) (past_of run k))

-- ---- links

abbrev pub is_row_lost : Row → Bool
is_row_lost row = is_lost row.fate

-- the copy of a row met this fate
abbrev pub is_same_fate : Fate → Fate → Bool
is_same_fate Queued Queued = true
is_same_fate Taken Taken = true
is_same_fate LostDown LostDown = true
is_same_fate LostCut LostCut = true
is_same_fate LostOverrun LostOverrun = true
is_same_fate _ _ = false

abbrev pub has_fate : Fate → Row → Bool
has_fate fate row = is_same_fate fate row.fate

-- a number of rows of a fate
abbrev pub fate_cell : Fate → List Row → List ℕ
fate_cell fate rows = decimal (count_by (has_fate fate) rows)

-- of its copies so many were put, taken and lost: on a link that was down, when it was cut, and where its queue was full
unfoldable pub copies_cells : List Row → List (List ℕ)
copies_cells rows =
    decimal (length rows) ∷ fate_cell Taken rows ∷ decimal (count_by is_row_lost rows) ∷ fate_cell LostDown rows ∷ fate_cell LostCut rows
    ∷ fate_cell LostOverrun rows ∷ []

-- a link: its number, its two ends, and what became of its copies
abbrev pub link_row : Naming → Run → ℕ → List (List ℕ)
link_row naming run l =
    decimal l ∷ port_text naming run.places (from_end Forth (ends_of run l)) ∷ port_text naming run.places (to_end Forth (ends_of run l))
    ∷ copies_cells (rows_of run l)

-- ---- sends

abbrev pub yes_or_no : Bool → List ℕ
yes_or_no true = codes "yes"
yes_or_no false = codes "no"

-- an entry: its node, its place in the node's record, and what the report calls it
unfoldable pub entry_cells : Naming → Probe → List (List ℕ)
entry_cells naming entry = send_text naming entry ∷ node_text naming entry.node ∷ decimal entry.place ∷ []

-- whether it is complete; the nodes that it was due at, which of these missed it or took it up twice, which others took it up; its losses
unfoldable pub got_cells : Naming → Delivery → List (List ℕ)
got_cells naming d =
    yes_or_no (is_complete d) ∷ nodes_text naming d.due ∷ nodes_text naming d.missed ∷ nodes_text naming d.twice ∷ nodes_text naming d.strayed
    ∷ losses_text d.lost ∷ []

-- a send, its moment in microseconds as it was given, its destination, and who got it
abbrev pub send_row : Naming → Delivery → List (List ℕ)
send_row naming d = entry_cells naming d.send ++ decimal d.at ∷ mac_text d.dst ∷ got_cells naming d

-- ---- load

-- a channel: the ports from which and to which it goes, how many copies it carried and their octets on the wire, its mean and its worst
-- millisecond in kbit/s, and the moment in microseconds at which that begins
unfoldable pub load_row : Naming → List Place → ChannelLoad → List (List ℕ)
load_row naming places load =
    port_text naming places load.from ∷ port_text naming places load.to ∷ decimal load.frames ∷ decimal load.octets ∷ decimal load.mean
    ∷ decimal load.worst ∷ decimal load.at ∷ []

-- ---- latency

-- how many microseconds a send took, and which it was
abbrev pub delay_cells : Naming → Option Delay → List (List ℕ)
delay_cells naming None = [] ∷ [] ∷ []
delay_cells naming (Some delay) = decimal delay.time ∷ send_text naming delay.send ∷ []

-- a node: how many frames went up there, the one that took longest, and the second copy that did
unfoldable pub latency_row : Naming → NodeLatency → List (List ℕ)
latency_row naming latency =
    node_text naming latency.node ∷ decimal latency.frames ∷ delay_cells naming (Some latency.worst) ++ delay_cells naming latency.second

-- ---- what was found

abbrev pub scope_word : Scope → List ℕ
scope_word Ring = codes "ring"
scope_word Network = codes "network"

abbrev pub doubt_word : Doubt → List ℕ
doubt_word NotRing = codes "not-ring"
doubt_word Empty = codes "empty"
doubt_word Mode = codes "mode"
doubt_word SameAddress = codes "same-address"
doubt_word (Side link) = codes "side"
doubt_word TwoLinks = codes "two-links"
doubt_word (Forgot k place) = codes "forgot"
doubt_word (Mistaken k place) = codes "mistaken"
doubt_word (NumberedLate k place) = codes "numbered-late"
doubt_word (CutOff k place receiver) = codes "cut-off"
doubt_word (UnknownStation k place) = codes "unknown-station"
doubt_word (Uncovered k place) = codes "uncovered"

-- the entry that a doubt names
abbrev pub at : ℕ → ℕ → Option Probe
at k place = Some (record { node = k; place = place })

abbrev pub doubt_entry : Doubt → Option Probe
doubt_entry (Forgot k place) = at k place
doubt_entry (Mistaken k place) = at k place
doubt_entry (NumberedLate k place) = at k place
doubt_entry (CutOff k place receiver) = at k place
doubt_entry (UnknownStation k place) = at k place
doubt_entry (Uncovered k place) = at k place
doubt_entry _ = None

-- the node that it says a send doesn't come to, and the link that it names
abbrev pub doubt_receiver : Doubt → Option ℕ
doubt_receiver (CutOff k place receiver) = Some receiver
doubt_receiver _ = None

abbrev pub doubt_link : Doubt → Option ℕ
doubt_link (Side link) = Some link
doubt_link _ = None

abbrev pub entry_if : Naming → Option Probe → List (List ℕ)
entry_if naming None = [] ∷ [] ∷ [] ∷ []
entry_if naming (Some entry) = entry_cells naming entry

abbrev pub node_if : Naming → Option ℕ → List ℕ
node_if naming None = []
node_if naming (Some k) = node_text naming k

abbrev pub number_if : Option ℕ → List ℕ
number_if None = []
number_if (Some n) = decimal n

-- what a finding names: an entry, a receiver and a link
unfoldable pub named_cells : Naming → Option Probe → Option ℕ → Option ℕ → List (List ℕ)
named_cells naming entry receiver link = entry_if naming entry ++ node_if naming receiver ∷ number_if link ∷ []

-- a verdict: how many sends are certified; or a doubt, and what it names
abbrev pub finding_cells : Naming → Finding → List (List ℕ)
finding_cells naming (finding.Certified sends) = codes "certified" ∷ decimal sends ∷ [] ∷ named_cells naming None None None
finding_cells naming (finding.Doubt doubt) =
    codes "doubt" ∷ [] ∷ doubt_word doubt ∷ named_cells naming (doubt_entry doubt) (doubt_receiver doubt) (doubt_link doubt)

-- the audit, and what it found
abbrev pub finding_row : Naming → Scope → Finding → List (List ℕ)
finding_row naming scope found = scope_word scope ∷ finding_cells naming found
