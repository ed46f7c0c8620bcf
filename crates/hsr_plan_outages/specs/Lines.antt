-- The lines of what faults cut off.
--     fault_text      what is off: link 3 prot1.B qb2.A, or node 4 qb2, or two of these
--     cut_text        sends of one node that are cut off from the same nodes: 19 of prot1 from bcu1,bcu2
--     outage_text     the line of a fault, where it cuts something off
--     outages_text    all lines, and how many of the faults cut something off
use Rattle.std.specs.Prelude.{ℕ, ◌==◌, if◌then◌else◌, not, Bool, List, [], ◌∷◌, ◌++◌, codes, length, filter, count_by, slice_get}
use Rattle.std.specs.Fmt.{decimal}
use Rattle.std.specs.List.{flat_map, range_with_len}
use Rattle.hsr_bitset.specs.Numbers.{has_bit}
use Rattle.hsr_topology.specs.declared.end.End.{End}
use Rattle.hsr_faults.specs.declared.fault.Fault.{Fault}
use Rattle.hsr_faults.specs.declared.fault.Fault.TheVariants.{One, Two}
use Rattle.hsr_faults.specs.declared.fault.Off.{Off}
use Rattle.hsr_faults.specs.declared.fault.Off.TheVariants as off
use Rattle.hsr_faults.specs.declared.nodes.Nodes.{Nodes}
use Rattle.hsr_faults.specs.declared.outage.Cut.{Cut}
use Rattle.hsr_faults.specs.declared.outage.Outage.{Outage}
use Rattle.hsr_plan_network.specs.Nodes.{Node}
use Rattle.hsr_plan_outages.specs.Names.{ends_if, node_name}

-- ---- what is off

abbrev pub off_text : List Node → List (List End) → Off → List ℕ
off_text nodes links (off.Link l) = codes "link " ++ decimal l ++ ends_if nodes (slice_get links l)
off_text nodes links (off.Node k) = codes "node " ++ decimal k ++ codes " " ++ node_name nodes k

abbrev pub fault_text : List Node → List (List End) → Fault → List ℕ
fault_text nodes links (One a) = off_text nodes links a
fault_text nodes links (Two a b) = off_text nodes links a ++ codes ", " ++ off_text nodes links b

-- ---- what is cut off

-- the nodes of a set among so many numbers from this one on
unfoldable pub nodes_among : Nodes → ℕ → ℕ → List ℕ
nodes_among set k n = filter (has_bit set.bits) (range_with_len k n)

-- all of them; 64 is the number of nodes that a topology has at most
abbrev pub nodes_in : Nodes → List ℕ
nodes_in set = nodes_among set 0 64

-- names of nodes, the first behind this mark, each other one behind a comma
abbrev pub names_text : List Node → List ℕ → List ℕ → List ℕ
names_text nodes mark [] = []
names_text nodes mark (k ∷ ks) = mark ++ node_name nodes k ++ names_text nodes (codes ",") ks

unfoldable pub cut_text : List Node → Cut → List ℕ
cut_text nodes cut = decimal cut.sends ++ codes " of " ++ node_name nodes cut.sender ++ names_text nodes (codes " from ") (nodes_in cut.nodes)

-- the first behind this mark, each other one behind a semicolon
abbrev pub cuts_text : List Node → List ℕ → List Cut → List ℕ
cuts_text nodes mark [] = []
cuts_text nodes mark (cut ∷ cuts) = mark ++ cut_text nodes cut ++ cuts_text nodes (codes "; ") cuts

-- ---- lines

-- something is cut off
abbrev pub is_cutting : Outage → Bool
is_cutting outage = not (outage.sends == 0)

-- how many sends are cut off, of how many
unfoldable pub head_text : List Node → List (List End) → ℕ → Outage → List ℕ
head_text nodes links sends outage = fault_text nodes links outage.fault ++ codes " off: cut-off " ++ decimal outage.sends ++ codes " of " ++ decimal sends

unfoldable pub outage_line : List Node → List (List End) → ℕ → Outage → List ℕ
outage_line nodes links sends outage = head_text nodes links sends outage ++ cuts_text nodes (codes ": ") outage.cuts.items ++ codes "\n"

abbrev pub outage_text : List Node → List (List End) → ℕ → Outage → List ℕ
outage_text nodes links sends outage = if is_cutting outage then outage_line nodes links sends outage else []

-- how many of the faults cut something off
unfoldable pub last_line : ℕ → ℕ → List ℕ
last_line cutting faults = decimal cutting ++ codes " of " ++ decimal faults ++ codes " with something cut off\n"

abbrev pub outages_text : List Node → List (List End) → ℕ → List Outage → List ℕ
outages_text nodes links sends outages = flat_map (outage_text nodes links sends) outages ++ last_line (count_by is_cutting outages) (length outages)
