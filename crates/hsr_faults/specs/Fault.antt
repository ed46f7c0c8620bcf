-- Links and nodes that are off from the start.
--     is_link_off     a link is down
--     is_node_off     a node is off
--     offs            the links of a topology, then its nodes
--     faults_of_one   each of these
--     faults_of_two   each two of these, in this order
use Rattle.std.specs.Prelude.{ℕ, ◌==◌, ◌||◌, Bool, false, List, [], ◌∷◌, ◌++◌, map, slice_index_or}
use Rattle.std.specs.List.{list_any, range_with_len}
use Rattle.hsr_topology.specs.declared.end.End.{End}
use Rattle.hsr_faults.specs.declared.fault.Fault.{Fault}
use Rattle.hsr_faults.specs.declared.fault.Fault.TheVariants.{One, Two}
use Rattle.hsr_faults.specs.declared.fault.Off.{Off}
use Rattle.hsr_faults.specs.declared.fault.Off.TheVariants.{Link, Node}

-- ---- what is off

-- an end of a link is at a node
abbrev pub has_end_at : ℕ → List (List End) → ℕ → Bool
has_end_at node links l = list_any (λ (end : End). end.node == node) (slice_index_or links l [])

-- with a node all its links are down
abbrev pub is_link_off_by : List (List End) → Off → ℕ → Bool
is_link_off_by links (Link number) l = l == number
is_link_off_by links (Node node) l = has_end_at node links l

abbrev pub is_node_off_by : Off → ℕ → Bool
is_node_off_by (Link number) k = false
is_node_off_by (Node number) k = k == number

abbrev pub is_link_off : List (List End) → Fault → ℕ → Bool
is_link_off links (One a) l = is_link_off_by links a l
is_link_off links (Two a b) l = is_link_off_by links a l || is_link_off_by links b l

abbrev pub is_node_off : Fault → ℕ → Bool
is_node_off (One a) k = is_node_off_by a k
is_node_off (Two a b) k = is_node_off_by a k || is_node_off_by b k

-- ---- all of them

-- the links by number, then the nodes
abbrev pub offs : ℕ → ℕ → List Off
offs links nodes = map Link (range_with_len 0 links) ++ map Node (range_with_len 0 nodes)

abbrev pub faults_of_one : ℕ → ℕ → List Fault
faults_of_one links nodes = map One (offs links nodes)

-- each with each behind it
abbrev pub pairs : List Off → List Fault
pairs [] = []
pairs (a ∷ later) = map (Two a) later ++ pairs later

abbrev pub faults_of_two : ℕ → ℕ → List Fault
faults_of_two links nodes = pairs (offs links nodes)
