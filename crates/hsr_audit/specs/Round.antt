-- What the audit asks of nodes and links, as tests of lists.
use Rattle.std.specs.Prelude.{ℕ, ◌+◌, ◌%◌, ◌<◌, ◌≤◌, ◌≡◌, ◌&&◌, ◌||◌, Bool, true, List, length, slice_index_or, Option, Some, None}
use Rattle.std.specs.List.{list_all}
use Rattle.hsr_link.specs.declared.row.Dir.TheVariants.{Forth, Back}
use Rattle.hsr_node.specs.declared.place.Place.{Place}
use Rattle.hsr_node.specs.declared.place.Place.TheVariants.{Danh, RedBox, QuadBox, Station}
use Rattle.hsr_audit.specs.Danhs.{IsDanhRing, is_danh, macs_of}
use Rattle.hsr_routes.specs.Networks.{AreGoingRound, HaveOwnAddresses}
use Rattle.hsr_topology.specs.Links.{is_same_end}
use Rattle.hsr_run_laws.specs.Premises.{NothingForgotten, NothingMistaken, OneLossyLink}
use Rattle.hsr_run_laws.specs.Run.{Run, from_end}
use Rattle.hsr_topology.specs.declared.end.End.{End}

-- ---- nodes and links

-- a link joins B of a node with A of the next
abbrev pub is_joint : List End → ℕ → ℕ → Bool
is_joint ends k next =
    (is_same_end (from_end Forth ends) (record { node = k; port = 1 }) && is_same_end (from_end Back ends) (record { node = next; port = 0 }))
    || (is_same_end (from_end Forth ends) (record { node = next; port = 0 }) && is_same_end (from_end Back ends) (record { node = k; port = 1 }))

-- link k of n round a ring
unfoldable pub is_joint_of : List End → ℕ → ℕ → Bool
is_joint_of ends k n = is_joint ends k ((k + 1) % n)

abbrev pub JoinedBelow : List (List End) → ℕ → Type 0
JoinedBelow links n = (k : ℕ) (d : List End) → k < n → is_joint_of (slice_index_or links k d) k (length links) ≡ true

pub record IsRound (places : List Place) (links : List (List End)) : Type 0 where
  pub two : 2 ≤ length places
  pub count : length links ≡ length places
  pub danhs : list_all is_danh places ≡ true
  pub joined : JoinedBelow links (length links)

-- ---- addresses

-- the address of a DANH
abbrev pub address_of : Place → Option (List ℕ)
address_of (Danh mac mode) = Some mac
address_of (RedBox mac mode) = None
address_of QuadBox = None
address_of (Station macs) = None

-- ---- what is found out in turn

-- what is known of a ring whose addresses these are
pub record IsOwnRing (run : Run) (macs : List (List ℕ)) : Type 0 where
  pub ring : IsDanhRing run
  pub modes : AreGoingRound run
  pub own : HaveOwnAddresses run
  pub macs_is : macs ≡ macs_of run.places

-- what is known of a run without a doubt
pub record IsClear (run : Run) (macs : List (List ℕ)) : Type 0 where
  pub ring : IsOwnRing run macs
  pub losses : OneLossyLink run
  pub forgotten : NothingForgotten run
  pub mistaken : NothingMistaken run
