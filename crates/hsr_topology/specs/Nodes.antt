-- What the nodes of a topology may be.
use Rattle.std.specs.Prelude.{ℕ, ◌==◌, ◌||◌, Bool, false, List, [], ◌∷◌, length}
use Rattle.std.specs.List.{list_any}
use Rattle.hsr_frame.specs.Address.{is_among, is_group}
use Rattle.hsr_node.specs.declared.place.Place.{Place}
use Rattle.hsr_node.specs.declared.place.Place.TheVariants.{Danh, RedBox, QuadBox, Station}

abbrev pub has_group : List (List ℕ) → Bool
has_group macs = list_any is_group macs

-- an address stands again further on
abbrev pub has_twice : List (List ℕ) → Bool
has_twice [] = false
has_twice (mac ∷ macs) = is_among macs mac || has_twice macs

-- no node has a group's address, and a station has one at least, and each once
abbrev pub is_bad_node : Place → Bool
is_bad_node (Danh mac mode) = is_group mac
is_bad_node (RedBox mac mode) = is_group mac
is_bad_node QuadBox = false
is_bad_node (Station macs) = (length macs.items == 0) || has_group macs.items || has_twice macs.items

abbrev pub has_bad_node : List Place → Bool
has_bad_node places = list_any is_bad_node places
