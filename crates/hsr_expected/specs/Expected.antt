-- The addresses of the nodes and stations of a plan.
use Rattle.std.specs.Prelude.{ℕ, List, [], ◌∷◌, Option, Some, None, Result, Ok, Err}
use Rattle.std.specs.List.{flat_map}
use Rattle.hsr_node.specs.declared.place.Place.{Place}
use Rattle.hsr_node.specs.declared.place.Place.TheVariants as place
use Rattle.hsr_plan_network.specs.Nodes.{Node}
use Rattle.hsr_plan_network.specs.Wiring.{Wired, wired}
use Rattle.hsr_plan_text.specs.Meaning.{plan_of}
use Rattle.hsr_plan_text.specs.Plan.{Plan}
use Rattle.hsr_plan_text.specs.declared.fault.PlanFault.{PlanFault}
use Rattle.hsr_plan_text.specs.declared.fault.What.{What}
use Rattle.hsr_plan_text.specs.declared.fault.What.TheVariants as what
use Rattle.hsr_expected.specs.declared.expected.ExpectedFault.{ExpectedFault}
use Rattle.hsr_expected.specs.declared.expected.ExpectedFault.TheVariants.{NoMemory, NoPlan}

-- a QuadBox has none
abbrev pub macs_at : Place → List (List ℕ)
macs_at (place.Danh mac mode) = mac ∷ []
macs_at (place.RedBox mac mode) = mac ∷ []
macs_at place.QuadBox = []
macs_at (place.Station macs) = macs.items

abbrev pub macs_by : Node → List (List ℕ)
macs_by n = macs_at n.place

-- in the order of the nodes
abbrev pub macs_of : List Node → List (List ℕ)
macs_of nodes = flat_map macs_by nodes

abbrev pub in_wired : Result Wired What → Option (List (List ℕ))
in_wired (Ok w) = Some (macs_of w.nodes)
in_wired (Err fault) = None

abbrev pub in_plan : Result Plan PlanFault → Option (List (List ℕ))
in_plan (Ok plan) = in_wired (wired plan.outline.network)
in_plan (Err fault) = None

-- the addresses of the plan that a text is; none where it is no plan
unfoldable pub expected_in : List ℕ → Option (List (List ℕ))
expected_in text = in_plan (plan_of text)

-- want of memory tells nothing of a text
abbrev pub fault_of : What → ExpectedFault
fault_of what.NoMemory = NoMemory
fault_of _ = NoPlan
