-- What a place may be.
use Rattle.std.specs.Prelude.{ℕ, Bool, false, List}
use Rattle.hsr_frame.specs.Address.{IsGroup, is_among, is_same_address}
use Rattle.hsr_node.specs.declared.place.Place.{Place}
use Rattle.hsr_node.specs.declared.place.Place.TheVariants.{Danh, RedBox, QuadBox, Station}

-- no group has the address of a node on a ring
abbrev pub HasOwnAddress : Place → Type 0
HasOwnAddress (Danh mac mode) = ¬ IsGroup mac
HasOwnAddress (RedBox mac mode) = ¬ IsGroup mac
HasOwnAddress QuadBox = Unit {0}
HasOwnAddress (Station macs) = Unit {0}

-- an address is the node's own
abbrev pub owns : Place → List ℕ → Bool
owns (Danh own mode) mac = is_same_address own mac
owns (RedBox own mode) mac = is_same_address own mac
owns QuadBox mac = false
owns (Station macs) mac = is_among macs.items mac

-- how many ports a place has
abbrev pub ports : Place → ℕ
ports (Danh mac mode) = 2
ports (RedBox mac mode) = 3
ports QuadBox = 4
ports (Station macs) = 1
