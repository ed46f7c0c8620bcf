-- What is told of a fault, by groups of sends.
--     AreMissed       the nodes that the sends of each group are cut off from
--     told_of         what is told of each send, by the index of its group
--     AreLined        groups with the number of their sends, and the nodes that these are cut off from
--     AreCutsBelow    the list of what is cut off, of the first groups
use Rattle.std.specs.Prelude.{ℕ, ◌<◌, ◌≤◌, ◌≡◌, true, List, [], length, count_by, map, slice_index_or}
use Rattle.hsr_run_laws.specs.Run.{Run}
use Rattle.hsr_routes.specs.Numbered.{is_in}
use Rattle.hsr_faults.specs.CutOff.{AreCutOffBy, IsCut, IsListed, Told, is_cut, is_of}
use Rattle.hsr_faults.specs.Groups.{AreCounts, IsSentBy, is_number}
use Rattle.hsr_faults.specs.declared.fault.Fault.{Fault}
use Rattle.hsr_faults.specs.declared.groups.Group.{Group}
use Rattle.hsr_faults.specs.declared.nodes.Nodes.{Nodes}
use Rattle.hsr_faults.specs.declared.outage.Cut.{Cut}

-- of the first groups
pub record AreMissed (net : Run) (fault : Fault) (groups : List Group) (n : ℕ) (all : List Nodes) : Type 0 where
  pub many : length all ≡ n
  pub each : (j : ℕ) (d : Nodes) (e : Group) → j < n → AreCutOffBy net (slice_index_or groups j e).frame (is_in (slice_index_or groups j e).down.words) fault (slice_index_or all j d).bits

-- ---- of each send

-- where there is no group, which isn't so
abbrev pub no_group : Group
no_group = record { frame = record { sender = 0; dst = []; kind = 0 }; down = record { words = [] } }

abbrev pub no_nodes : Nodes
no_nodes = record { bits = 0 }

abbrev pub told_at : List Group → List Nodes → ℕ → Told
told_at groups missed x = record { sender = (slice_index_or groups x no_group).frame.sender; nodes = (slice_index_or missed x no_nodes).bits }

abbrev pub told_of : List Group → List Nodes → List ℕ → List Told
told_of groups missed of = map (told_at groups missed) of

-- ---- the list

-- each group has a send, and each send a group; the groups are in the order of their first sends
pub record AreLined (groups : List Group) (of counts : List ℕ) (missed : List Nodes) : Type 0 where
  pub counts_are : AreCounts (length groups) of counts
  pub many : length missed ≡ length groups
  pub below : (i d : ℕ) → i < length of → slice_index_or of i d < length groups
  pub some : (j : ℕ) → j < length groups → 0 < count_by (is_number j) of
  pub rises : (i j e : ℕ) → i < length of → j ≤ slice_index_or of i e → IsSentBy of j i

-- a line is that of a group before one
pub record IsLineOf (groups : List Group) (missed : List Nodes) (cut : Cut) (n : ℕ) : Type 0 where
  pub group : ℕ
  pub below : group < n
  pub is : is_of cut.sender cut.nodes.bits (told_at groups missed group) ≡ true

-- as all of the list, but with the sends of the first groups
pub record AreCutsBelow (groups : List Group) (of : List ℕ) (missed : List Nodes) (n : ℕ) (cuts : List Cut) : Type 0 where
  pub each : (r : ℕ) (d : Cut) → r < length cuts → IsCut (told_of groups missed of) (slice_index_or cuts r d)
  pub all : (x : ℕ) → x < n → is_cut (told_at groups missed x) ≡ true → IsListed cuts (told_at groups missed x).sender (told_at groups missed x).nodes
  pub once : (q r : ℕ) (c d : Cut) → q < length cuts → r < length cuts → (slice_index_or cuts q c).sender ≡ (slice_index_or cuts r d).sender →
      (slice_index_or cuts q c).nodes ≡ (slice_index_or cuts r d).nodes → q ≡ r
  pub from : (r : ℕ) (d : Cut) → r < length cuts → IsLineOf groups missed (slice_index_or cuts r d) n
  pub order : (q r : ℕ) (c d : Cut) (x : ℕ) → q < r → r < length cuts → is_of (slice_index_or cuts r d).sender (slice_index_or cuts r d).nodes.bits (told_at groups missed x) ≡ true →
      IsLineOf groups missed (slice_index_or cuts q c) x
