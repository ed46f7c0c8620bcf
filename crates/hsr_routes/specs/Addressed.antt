-- What a network asks of nodes and links, as tests of lists.
use Rattle.std.specs.Prelude.{ℕ, ◌<◌, ◌≡◌, Bool, false, List, length, take, slice_index_or, Option, Some, None}
use Rattle.std.specs.List.{list_any}
use Rattle.hsr_link.specs.declared.row.Dir.TheVariants.{Forth}
use Rattle.hsr_node.specs.declared.place.Place.{Place}
use Rattle.hsr_node.specs.declared.place.Place.TheVariants.{Danh, RedBox, QuadBox, Station}
use Rattle.hsr_node.specs.Place.{owns}
use Rattle.hsr_run_laws.specs.Run.{from_end, to_end}
use Rattle.hsr_network_laws.specs.Network.{is_edge}
use Rattle.hsr_topology.specs.declared.end.End.{End}

-- ---- addresses

-- an address is of both nodes
abbrev pub shares : Place → Place → Bool
shares (Danh mac mode) other = owns other mac
shares (RedBox mac mode) other = owns other mac
shares QuadBox other = false
shares (Station macs) other = list_any (owns other) macs.items

unfoldable pub shares_any : Place → List Place → Bool
shares_any place before = list_any (shares place) before

abbrev pub OwnBelow : List Place → ℕ → Type 0
OwnBelow places n = (k : ℕ) (d : Place) → k < n → shares_any (slice_index_or places k d) (take k places) ≡ false

-- ---- links

abbrev pub is_edge_at : List Place → End → Bool
is_edge_at places end = is_edge (slice_index_or places end.node QuadBox) end.port

abbrev pub AreLike : List Place → List End → Type 0
AreLike places ends = is_edge_at places (from_end Forth ends) ≡ is_edge_at places (to_end Forth ends)

abbrev pub LikeBelow : List Place → List (List End) → ℕ → Type 0
LikeBelow places links n = (l : ℕ) (d : List End) → l < n → AreLike places (slice_index_or links l d)

pub record IsUnlikeAt (places : List Place) (links : List (List End)) (l : ℕ) : Type 0 where
  pub below : l < length links
  pub unlike : (d : List End) → ¬ AreLike places (slice_index_or links l d)
  pub before : LikeBelow places links l

abbrev pub IsUnlike : List Place → List (List End) → Option ℕ → Type 0
IsUnlike places links (Some l) = IsUnlikeAt places links l
IsUnlike places links None = LikeBelow places links (length links)
