-- The lines of a report: one for the bench, one for each node and each link, those that are asked for, those of a network, and what the
-- audit found. A naming says what they call nodes and entries.
use Rattle.std.specs.Prelude.{ℕ, zero, suc, ◌&&◌, not, Bool, if◌then◌else◌, List, [], ◌∷◌, ◌++◌, length, count_by, codes, Option, Some, None}
use Rattle.std.specs.Fmt.{decimal}
use Rattle.std.specs.List.{flat_map}
use Rattle.hsr_node.specs.Counts.{counters}
use Rattle.hsr_frame.specs.declared.counters.Counters.{Counters}
use Rattle.hsr_node.specs.Place.{ports}
use Rattle.hsr_node.specs.Words.{letter, role_in, role_word}
use Rattle.hsr_node.specs.declared.event.Probe.{Probe}
use Rattle.hsr_node.specs.declared.role.Role.{Role}
use Rattle.hsr_link.specs.Rows.{is_lost, is_taken}
use Rattle.hsr_link.specs.declared.row.Row.{Row}
use Rattle.hsr_topology.specs.Links.{is_used}
use Rattle.hsr_run_laws.specs.Run.{Run, past_of, place_of, rows_of}
use Rattle.hsr_network_laws.specs.Network.{is_edge}
use Rattle.hsr_deliveries.specs.Delivered.{Delivery, deliveries, is_none}
use Rattle.hsr_audit.specs.declared.doubt.Doubt.{Doubt}
use Rattle.hsr_audit.specs.declared.doubt.Doubt.TheVariants.{NotRing, Empty, Mode, SameAddress, Side, TwoLinks, Forgot, Mistaken, NumberedLate, CutOff, UnknownStation, Uncovered}
use Rattle.hsr_naming.specs.Naming.{entry_text, node_text as called, send_text}
use Rattle.hsr_naming.specs.declared.naming.Naming.{Naming}
use Rattle.hsr_table_demand.specs.declared.most.Needed.{Needed}
use Rattle.hsr_options.specs.declared.chosen.Scope.{Scope}
use Rattle.hsr_options.specs.declared.chosen.Scope.TheVariants.{Ring, Network}
use Rattle.hsr_node_text.specs.Reply.{counter_line}
use Rattle.hsr_report.specs.declared.finding.Finding.{Finding}
use Rattle.hsr_report.specs.declared.finding.Finding.TheVariants as finding
use Rattle.hsr_report.specs.declared.spending.Spending.{Spending}
use Rattle.hsr_report.specs.declared.spending.Spending.TheVariants.{Within, Late, Crowded}

-- a node: what it is called, its role, and how often each thing happened there
unfoldable pub node_text : Naming → ℕ → Role → Counters → List ℕ
node_text naming k role counted = codes "node " ++ called naming k ++ codes " " ++ role_word role ++ codes " " ++ counter_line counted

abbrev pub node_line : Naming → Run → ℕ → List ℕ
node_line naming run k = node_text naming k (role_in (place_of run k)) (counters (place_of run k) (past_of run k))

abbrev pub is_row_taken : Row → Bool
is_row_taken row = is_taken row.fate

abbrev pub is_row_lost : Row → Bool
is_row_lost row = is_lost row.fate

-- a link: its number, and how many copies were put on it, taken and lost
unfoldable pub link_line : ℕ → List Row → List ℕ
link_line l rows =
    codes "link " ++ decimal l ++ codes " put " ++ decimal (length rows) ++ codes " taken " ++ decimal (count_by is_row_taken rows)
    ++ codes " lost " ++ decimal (count_by is_row_lost rows) ++ codes "\n"

-- the lines of the first nodes and links
abbrev pub node_lines : Naming → Run → ℕ → List ℕ
node_lines naming run zero = []
node_lines naming run (suc n) = node_lines naming run n ++ node_line naming run n

abbrev pub link_lines : Run → ℕ → List ℕ
link_lines run zero = []
link_lines run (suc n) = link_lines run n ++ link_line n (rows_of run n)

-- the bench: how many entries a table has, and how many nodes and links there are
unfoldable pub head_text : ℕ → ℕ → ℕ → List ℕ
head_text capacity nodes links = codes "bench 1 table " ++ decimal capacity ++ codes " nodes " ++ decimal nodes ++ codes " links " ++ decimal links ++ codes "\n"

abbrev pub head_line : Run → List ℕ
head_line run = head_text run.capacity (length run.places) (length run.links)

-- ---- what was found

-- a word, and the entry that it names
abbrev pub at_text : Naming → List ℕ → ℕ → ℕ → List ℕ
at_text naming word k place = word ++ entry_text naming k place

-- a doubt: a word, and the link or entry that it names, and for a cut the node that the send doesn't come to
abbrev pub doubt_text : Naming → Doubt → List ℕ
doubt_text naming NotRing = codes "not-ring"
doubt_text naming Empty = codes "empty"
doubt_text naming Mode = codes "mode"
doubt_text naming SameAddress = codes "same-address"
doubt_text naming (Side link) = codes "side " ++ decimal link
doubt_text naming TwoLinks = codes "two-links"
doubt_text naming (Forgot k place) = at_text naming (codes "forgot ") k place
doubt_text naming (Mistaken k place) = at_text naming (codes "mistaken ") k place
doubt_text naming (NumberedLate k place) = at_text naming (codes "numbered-late ") k place
doubt_text naming (CutOff k place receiver) = at_text naming (codes "cut-off ") k place ++ codes " " ++ called naming receiver
doubt_text naming (UnknownStation k place) = at_text naming (codes "unknown-station ") k place
doubt_text naming (Uncovered k place) = at_text naming (codes "uncovered ") k place

abbrev pub finding_line : Naming → Finding → List ℕ
finding_line naming (finding.Certified sends) = codes "certified " ++ decimal sends ++ codes "\n"
finding_line naming (finding.Doubt doubt) = codes "doubt " ++ doubt_text naming doubt ++ codes "\n"

-- ---- needed entries

-- the entry at which the greatest number was needed first
abbrev pub met_text : Naming → Option (ℕ × ℕ) → List ℕ
met_text naming None = []
met_text naming (Some at) = codes " " ++ entry_text naming at.0 at.1

abbrev pub needed_line : Naming → Needed → List ℕ
needed_line naming needed = codes "needed " ++ decimal needed.entries ++ met_text naming needed.at ++ codes "\n"

-- ---- the budget

abbrev pub spending_text : Naming → Spending → List ℕ
spending_text naming (Within most) = decimal most
spending_text naming (Late k place) = codes "late " ++ entry_text naming k place
spending_text naming (Crowded moment) = codes "crowded " ++ decimal moment

abbrev pub spending_line : Naming → Spending → List ℕ
spending_line naming spent = codes "budget " ++ spending_text naming spent ++ codes "\n"

-- ---- a network

-- a port on a ring that no link has
abbrev pub is_unlinked : Run → ℕ → ℕ → Bool
is_unlinked run k port = not (is_edge (place_of run k) port) && not (is_used run.links (record { node = k; port = port }))

unfoldable pub unlinked_line : Naming → Run → ℕ → ℕ → List ℕ
unlinked_line naming run k port = codes "unlinked " ++ called naming k ++ codes "." ++ letter (place_of run k) port ∷ codes "\n"

abbrev pub unlinked_if : Naming → Run → ℕ → ℕ → List ℕ
unlinked_if naming run k port = if is_unlinked run k port then unlinked_line naming run k port else []

-- the lines of the first ports of a node, and of the first nodes
abbrev pub unlinked_ports : Naming → Run → ℕ → ℕ → List ℕ
unlinked_ports naming run k zero = []
unlinked_ports naming run k (suc port) = unlinked_ports naming run k port ++ unlinked_if naming run k port

abbrev pub unlinked_lines : Naming → Run → ℕ → List ℕ
unlinked_lines naming run zero = []
unlinked_lines naming run (suc k) = unlinked_lines naming run k ++ unlinked_ports naming run k (ports (place_of run k))

-- a send that is due at no node
unfoldable pub nobody_line : Naming → Probe → List ℕ
nobody_line naming send = codes "nobody " ++ send_text naming send ++ codes "\n"

abbrev pub nobody_if : Naming → Delivery → List ℕ
nobody_if naming d = if is_none d.due then nobody_line naming d.send else []

-- each port on a ring without a link, then each send that no node is for; of a ring's audit there are no such lines
abbrev pub network_lines : Naming → Scope → Run → List ℕ
network_lines naming Ring run = []
network_lines naming Network run = unlinked_lines naming run (length run.places) ++ flat_map (nobody_if naming) (deliveries run)

-- ---- the report

-- with these parts, and the lines of a network, before its last line
unfoldable pub report : Naming → Scope → Run → Finding → List ℕ → List ℕ
report naming scope run found parts =
    head_line run ++ node_lines naming run (length run.places) ++ link_lines run (length run.links) ++ parts ++ network_lines naming scope run
    ++ finding_line naming found
