-- Links that no lane has yet.
--     AreTaken    lanes took their links, each of which was free
--     AreLeft     each link is either free, or a lane of a panel just once
use Rattle.std.specs.Prelude.{ℕ, ◌≡◌, ◌+◌, nat_lt, if◌then◌else◌, Bool, false, List, [], ◌∷◌, count_by, slice_index_or}
use Rattle.hsr_diagram.specs.declared.panel.Lane.{Lane}
use Rattle.hsr_diagram.specs.Panels.{Panel, count_on, is_on}

-- how often a link can still be taken
abbrev pub freedom : List Bool → ℕ → ℕ
freedom free link = if slice_index_or free link false then 1 else 0

abbrev pub AreTaken : List Bool → List Lane → List Bool → Type 0
AreTaken old lanes new = (link : ℕ) → count_by (is_on link) lanes + freedom new link ≡ freedom old link

abbrev pub AreLeft : ℕ → List Panel → List Bool → Type 0
AreLeft n panels free = (link : ℕ) → count_on link panels + freedom free link ≡ (if nat_lt link n then 1 else 0)

abbrev pub IsNoneFree : List Bool → Type 0
IsNoneFree free = (link : ℕ) → slice_index_or free link false ≡ false

-- the node at the right of the last lane
abbrev pub end_of : ℕ → List Lane → ℕ
end_of node [] = node
end_of node (lane ∷ lanes) = end_of lane.right.node lanes
