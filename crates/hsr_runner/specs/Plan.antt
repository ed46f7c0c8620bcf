-- What a scenario's main worker brings about.
--     is_fine     a step that is for a world alone
--     plan_of     the sends, supervisions and ages of a scenario, each with the moment of the last clock step before it
use Rattle.std.specs.Prelude.{ℕ, Bool, true, false, List, [], ◌∷◌, ◌++◌, Option, Some, None, option_to_list}
use Rattle.hsr_node.specs.declared.event.Event.TheVariants as event
use Rattle.hsr_world_steps.specs.declared.step.Step.TheVariants.{Clock, Send, Supervise, Age, Put, Take, Judge}
use Rattle.hsr_scenario.specs.declared.steps.Order.{Order}
use Rattle.hsr_scenario.specs.declared.steps.Order.TheVariants.{Step}
use Rattle.hsr_finished_run.specs.declared.planned.Planned.{Planned}

-- a Put, Take or Judge: in threads, workers do these by themselves
abbrev pub is_fine : Order → Bool
is_fine (Step (Put node port)) = true
is_fine (Step (Take link dir)) = true
is_fine (Step (Judge node port)) = true
is_fine _ = false

-- what a step at a moment brings about at a node
abbrev pub planned_at : ℕ → Order → Option Planned
planned_at at (Step (Send node from dst vlan ethertype payload)) = Some (record { node = node; at = at; event = event.Send from dst vlan ethertype payload })
planned_at at (Step (Supervise node about)) = Some (record { node = node; at = at; event = event.Supervise about })
planned_at at (Step (Age node)) = Some (record { node = node; at = at; event = event.Age })
planned_at at _ = None

-- the moment after a step
abbrev pub clock_after : ℕ → Order → ℕ
clock_after at (Step (Clock now)) = now
clock_after at _ = at

-- the plan of steps that begin at a moment
abbrev pub plan_from : ℕ → List Order → List Planned
plan_from at [] = []
plan_from at (order ∷ orders) = option_to_list (planned_at at order) ++ plan_from (clock_after at order) orders

-- the plan of a scenario, which begins at 0
abbrev pub plan_of : List Order → List Planned
plan_of orders = plan_from 0 orders
