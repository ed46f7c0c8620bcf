-- Whose an address is.
use Rattle.std.specs.Prelude.{ℕ, ◌&&◌, ◌||◌, not, Bool, false, ⊤, List, Result}
use Rattle.std.specs.List.{list_any}
use Rattle.std.specs.Str.{bytes_eq}
use Rattle.hsr_node.specs.declared.place.Place.TheVariants.{Danh, RedBox, QuadBox, Station}
use Rattle.hsr_node.specs.Place.{owns}
use Rattle.hsr_plan_text.specs.declared.fault.What.{What}
use Rattle.hsr_plan_text.specs.declared.fault.Refusal.TheVariants.{AddressTaken}
use Rattle.hsr_plan_text.specs.declared.plan.Addressed.{Addressed}
use Rattle.hsr_plan_network.specs.Checks.{unless_held}
use Rattle.hsr_plan_network.specs.Names.{is_in}
use Rattle.hsr_plan_network.specs.Nodes.{Node}

-- a name is the node's, or one of a station that it is
abbrev pub is_of : Node → List ℕ → Bool
is_of node n = bytes_eq node.name n || is_in n node.stations

-- a node of another name has the address
abbrev pub others_have : List Node → Addressed → Bool
others_have nodes a = list_any (λ node. not (is_of node a.name) && owns node.place a.mac) nodes

unfoldable pub is_own : List Node → Addressed → Result ⊤ What
is_own nodes a = unless_held (not (others_have nodes a)) (AddressTaken a.name)
