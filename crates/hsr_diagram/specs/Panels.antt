-- How the nodes of a topology stand side by side.
--     IsLaneOf    a lane joins the two ends of its link
--     IsChain     each lane begins at the node where the one before it ends
--     ArePanels   each link is a lane of a panel just once, and each node without a link has a panel of its own
use Rattle.std.specs.Prelude.{ℕ, zero, suc, Bool, ◌≡◌, ◌⊎◌, ◌==◌, nat_lt, not, if◌then◌else◌, List, [], ◌∷◌, ◌++◌, length, count_by, slice_get, Some}
use Rattle.std.specs.List.{AllByRecursion, flat_map, list_any}
use Rattle.hsr_topology.specs.Topology.{Topology}
use Rattle.hsr_topology.specs.declared.end.End.{End}
use Rattle.hsr_diagram.specs.declared.panel.Lane.{Lane}

-- a first node, and the lanes behind it
pub record Panel : Type 0 where
  pub first : ℕ
  pub lanes : List Lane

-- a lane has the two ends of its link, one at its left and one at its right
abbrev pub IsLaneOf : List (List End) → Lane → Type 0
IsLaneOf links lane = (slice_get links lane.link ≡ Some (lane.left ∷ lane.right ∷ [])) ⊎ (slice_get links lane.link ≡ Some (lane.right ∷ lane.left ∷ []))

-- a lane looked at from the other side
abbrev pub turned : Lane → Lane
turned lane = record { link = lane.link; left = lane.right; right = lane.left }

-- a lane begins at a node
abbrev pub IsLaneFrom : List (List End) → ℕ → Lane → Type 0
IsLaneFrom links node lane = IsLaneOf links lane × (lane.left.node ≡ node)

-- from a node on, each lane begins where the one before it ends
abbrev pub IsChain : List (List End) → ℕ → List Lane → Type 0
IsChain links node [] = Unit {0}
IsChain links node (lane ∷ lanes) = IsLaneFrom links node lane × IsChain links lane.right.node lanes

abbrev pub IsPanel : List (List End) → Panel → Type 0
IsPanel links panel = IsChain links panel.first panel.lanes

-- ---- each link once

abbrev pub is_on : ℕ → Lane → Bool
is_on link lane = lane.link == link

abbrev pub lanes_in : List Panel → List Lane
lanes_in panels = flat_map (λ panel. panel.lanes) panels

abbrev pub count_on : ℕ → List Panel → ℕ
count_on link panels = count_by (is_on link) (lanes_in panels)

-- of n links, each once
abbrev pub AreOnce : ℕ → List Panel → Type 0
AreOnce n panels = (link : ℕ) → count_on link panels ≡ (if nat_lt link n then 1 else 0)

-- ---- nodes without a link

abbrev pub is_end_at : ℕ → End → Bool
is_end_at node end = end.node == node

abbrev pub is_linked : List (List End) → ℕ → Bool
is_linked links node = list_any (list_any (is_end_at node)) links

abbrev pub lone : ℕ → Panel
lone node = record { first = node; lanes = [] }

abbrev pub lone_if : List (List End) → ℕ → List Panel
lone_if links node = if not (is_linked links node) then lone node ∷ [] else []

-- those of the nodes below one
abbrev pub lone_below : List (List End) → ℕ → List Panel
lone_below links zero = []
lone_below links (suc n) = lone_below links n ++ lone_if links n

-- ---- all

pub record ArePanels (topology : Topology) (panels : List Panel) : Type 0 where
  pub joined : List Panel
  pub chains : AllByRecursion (IsPanel topology.links) joined
  pub once : AreOnce (length topology.links) joined
  pub all : panels ≡ joined ++ lone_below topology.links (length topology.places)
