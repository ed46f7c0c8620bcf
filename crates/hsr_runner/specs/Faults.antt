-- What is known of the reason why there is no run.
--     misfit        why a step is refused whatever was done before it
--     AllFit        no step of these is
--     IsOwnFault    why the order at an index is refused
--     IsNoRunOf     what there is in place of a run, as a cause of the closing check
--     IsRunFault    why there is no run of a scenario
use Rattle.std.specs.Prelude.{ℕ, ◌≡◌, ◌≤◌, ◌⊎◌, nat_lt, Bool, true, false, if◌then◌else◌, List, [], ◌∷◌, length, slice_get, position, MatchOption, Option, Some, None, Err, Vec}
use Rattle.std.specs.Global.{Global}
use Rattle.hsr_topology.specs.Topology.{Topology}
use Rattle.hsr_node.specs.Cell.{IsLegalRecord}
use Rattle.hsr_node.specs.Kept.{Receipts, Record, answer_to}
use Rattle.hsr_link.specs.declared.row.Row.{Row}
use Rattle.hsr_node.specs.declared.event.Carried.{Carried}
use Rattle.hsr_node.specs.declared.event.Event.{Event}
use Rattle.hsr_node.specs.declared.event.Event.TheVariants.{Arrive}
use Rattle.hsr_node.specs.declared.event.StepFault.{StepFault}
use Rattle.hsr_node.specs.declared.event.StepFault.TheVariants.{NoMemory as NoRoom}
use Rattle.hsr_finished_run.specs.Checked.{IsFirst}
use Rattle.hsr_finished_run.specs.Finished.{Finished}
use Rattle.hsr_finished_run.specs.declared.disagree.Disagree.{Disagree}
use Rattle.hsr_finished_run.specs.declared.planned.Planned.{Planned}
use Rattle.hsr_scenario.specs.Meaning.{Meant}
use Rattle.hsr_scenario.specs.declared.steps.Order.{Order}
use Rattle.hsr_scenario.specs.declared.steps.Order.TheVariants as order
use Rattle.hsr_world_steps.specs.declared.step.Step.TheVariants.{Send, Supervise, Age, Cut, Mend, Inject}
use Rattle.hsr_world_steps.specs.declared.step.WorldFault.{WorldFault}
use Rattle.hsr_world_steps.specs.declared.step.WorldFault.TheVariants.{NoSuchNode, NoSuchLink, TooLong, Node}
use Rattle.hsr_runner.specs.Brought.{IsUnlike}
use Rattle.hsr_runner.specs.Plan.{is_fine, plan_of, planned_at}
use Rattle.hsr_runner.specs.Runs.{IsRunOf}
use Rattle.hsr_runner.specs.declared.fault.RunFault.{RunFault}
use Rattle.hsr_runner.specs.declared.fault.RunFault.TheVariants.{FineStep, Step, GateShut, Thread, Check, NoMemory}

-- the fault names a step that is for a world alone
abbrev pub is_fine_step : RunFault → Bool
is_fine_step (FineStep k) = true
is_fine_step _ = false

-- ---- steps that are refused whatever was done before

abbrev pub if_node : Topology → ℕ → Option WorldFault
if_node topology node = if nat_lt node (length topology.places) then None else Some NoSuchNode

abbrev pub if_link : Topology → ℕ → Option WorldFault → Option WorldFault
if_link topology link fault = if nat_lt link (length topology.links) then fault else Some NoSuchLink

abbrev pub too_long : List ℕ → Option WorldFault
too_long octets = if nat_lt 2048 (length octets) then Some TooLong else None

-- its node or link isn't there, or more than 2048 octets are injected
abbrev pub misfit : Topology → Order → Option WorldFault
misfit topology (order.Step (Send node from dst vlan ethertype payload)) = if_node topology node
misfit topology (order.Step (Supervise node about)) = if_node topology node
misfit topology (order.Step (Age node)) = if_node topology node
misfit topology (order.Step (Cut link)) = if_link topology link None
misfit topology (order.Step (Mend link)) = if_link topology link None
misfit topology (order.Step (Inject link dir octets)) = if_link topology link (too_long octets)
misfit topology _ = None

-- no step of these is refused whatever was done before
abbrev pub AllFit : Topology → List Order → Type 0
AllFit topology [] = Unit {0}
AllFit topology (o ∷ os) = (misfit topology o ≡ None) × AllFit topology os

-- ---- steps that a node refuses

-- some legal record refuses an event at a moment; a failed allocation is no such reason
abbrev pub IsRefusedEvent : ℕ → ℕ → Event → StepFault → Type 0
IsRefusedEvent capacity at event NoRoom = ⊥
IsRefusedEvent capacity at event fault = (r : Record) × IsLegalRecord capacity r × (answer_to capacity r at event ≡ Err fault)

abbrev pub IsRefusedPlan : ℕ → Option Planned → StepFault → Type 0
IsRefusedPlan capacity None fault = ⊥
IsRefusedPlan capacity (Some planned) fault = IsRefusedEvent capacity planned.at planned.event fault

-- an order of the main worker is refused: for itself, or by its node
abbrev pub IsRefusedOrder : ℕ → Topology → Order → WorldFault → Type 0
IsRefusedOrder capacity topology o (Node fault) = (at : ℕ) × IsRefusedPlan capacity (planned_at at o) fault
IsRefusedOrder capacity topology o fault = misfit topology o ≡ Some fault

-- a copy is refused by its node
abbrev pub IsRefusedCopy : ℕ → StepFault → Type 0
IsRefusedCopy capacity fault = (at : ℕ) × (port : ℕ) × (copy : Carried) × IsRefusedEvent capacity at (Arrive port copy) fault

abbrev pub IsCopyFault : ℕ → WorldFault → Type 0
IsCopyFault capacity (Node fault) = IsRefusedCopy capacity fault
IsCopyFault capacity _ = ⊥

-- the main worker's order at an index is refused
abbrev pub IsOwnFault : ℕ → Meant → ℕ → WorldFault → Type 0
IsOwnFault capacity s k fault = MatchOption (slice_get s.steps k) ⊥ (λ o. IsRefusedOrder capacity s.topology o fault)

-- ---- parts that are no run

-- some parts with these nodes, links and plan don't agree, and this is the first cause
pub record IsCause (capacity : ℕ) (topology : Topology) (plan : List Planned) (d : Disagree) : Type 0 where
  pub kept : List Record
  pub rows : List (Vec Row Global)
  pub passes : List Receipts
  pub first : IsFirst capacity topology kept rows passes plan d

-- some finished run of a scenario has what no run by threads has
pub record IsUnlikeRun (capacity : ℕ) (s : Meant) (d : Disagree) : Type 0 where
  pub finished : Finished
  pub is_run : IsRunOf capacity s finished
  pub unlike : IsUnlike finished.run s.steps d

abbrev pub IsNoRunOf : ℕ → Meant → Disagree → Type 0
IsNoRunOf capacity s d = IsCause capacity s.topology (plan_of s.steps) d ⊎ IsUnlikeRun capacity s d

-- ---- faults

-- Why there is no run of a scenario: its lowest fine step; an order of the main worker that is refused, or a copy that is while the main
-- worker is at an index; or what the closing check found, or the look behind it. A failed allocation is always `NoMemory`.
abbrev pub IsRunFault : ℕ → Meant → RunFault → Type 0
IsRunFault capacity s (FineStep k) = position is_fine s.steps ≡ Some k
IsRunFault capacity s (Step k fault) = (k ≤ length s.steps) × (IsOwnFault capacity s k fault ⊎ IsCopyFault capacity fault)
IsRunFault capacity s (Check d) = IsNoRunOf capacity s d
IsRunFault capacity s GateShut = Unit {0}
IsRunFault capacity s Thread = Unit {0}
IsRunFault capacity s NoMemory = Unit {0}
