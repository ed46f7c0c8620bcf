-- The steps of a scenario that cut or mend a link.
--     change_by   one of them
--     changes     all, in their order
use Rattle.std.specs.Prelude.{ℕ, ◌+◌, nat_lt, Bool, true, false, if◌then◌else◌, List, [], ◌∷◌, ◌++◌, Option, Some, None, option_to_list}
use Rattle.hsr_world_steps.specs.declared.step.Step.TheVariants.{Clock, Send, Supervise, Age, Cut, Mend}
use Rattle.hsr_scenario.specs.declared.steps.Order.{Order}
use Rattle.hsr_scenario.specs.declared.steps.Order.TheVariants.{Step}
use Rattle.hsr_downs.specs.declared.changing.Change.{Change}

-- at a moment, and behind so much that is planned
abbrev pub change_by : ℕ → ℕ → Order → Option Change
change_by moment planned (Step (Cut link)) = Some (record { link = link; is_cut = true; moment = moment; planned = planned })
change_by moment planned (Step (Mend link)) = Some (record { link = link; is_cut = false; moment = moment; planned = planned })
change_by moment planned _ = None

-- A clock that is set back turns no order: the greatest moment that was set stays.
abbrev pub moment_after : ℕ → Order → ℕ
moment_after moment (Step (Clock at)) = if nat_lt moment at then at else moment
moment_after moment _ = moment

-- a send, a supervision or an age: the plan of a run has these
abbrev pub is_planned : Order → Bool
is_planned (Step (Send node from dst vlan ethertype payload)) = true
is_planned (Step (Supervise node about)) = true
is_planned (Step (Age node)) = true
is_planned _ = false

abbrev pub planned_after : ℕ → Order → ℕ
planned_after planned order = if is_planned order then planned + 1 else planned

abbrev pub changes_from : ℕ → ℕ → List Order → List Change
changes_from moment planned [] = []
changes_from moment planned (order ∷ orders) =
    option_to_list (change_by moment planned order) ++ changes_from (moment_after moment order) (planned_after planned order) orders

-- a scenario begins at the moment 0
abbrev pub changes : List Order → List Change
changes orders = changes_from 0 0 orders
