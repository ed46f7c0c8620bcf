-- How the threads of a run end.
--     IsEnding     how a worker may end
--     IsConducted  how the main worker may end
--     IsPlayFault  why threads that were started leave no run
use Rattle.std.specs.Prelude.{ℕ, ◌≡◌, ◌≤◌, ◌<◌, Bool, true, List, length, slice_get, MatchOption, Option, Some, None, Vec}
use Rattle.std.specs.Global.{Global}
use Rattle.std.specs.Option.{option_or}
use Rattle.hsr_scenario.specs.Meaning.{Meant}
use Rattle.hsr_world_steps.specs.declared.step.WorldFault.{WorldFault}
use Rattle.hsr_world_steps.specs.declared.step.WorldFault.TheVariants.{Node, NoMemory as NoRoom}
use Rattle.hsr_node.specs.Kept.{Receipts, Record}
use Rattle.hsr_node.specs.declared.event.StepFault.{StepFault}
use Rattle.hsr_node.specs.declared.event.StepFault.TheVariants as refused
use Rattle.hsr_topology.specs.Topology.{Topology}
use Rattle.hsr_link.specs.declared.row.Row.{Row}
use Rattle.hsr_finished_run.specs.Checked.{IsFirst}
use Rattle.hsr_finished_run.specs.declared.planned.Planned.{Planned}
use Rattle.hsr_scenario.specs.declared.steps.Order.{Order}
use Rattle.hsr_runner.specs.Faults.{AllFit, IsRefusedCopy, IsRefusedEvent, IsRefusedOrder, IsRunFault, if_node}
use Rattle.hsr_runner.specs.declared.conduct.Conducted.{Conducted}
use Rattle.hsr_runner.specs.declared.conduct.Conducted.TheVariants.{All, Left, Own}
use Rattle.hsr_runner.specs.declared.conduct.Conducted.TheVariants as conducted
use Rattle.hsr_runner.specs.declared.ending.Ending.{Ending}
use Rattle.hsr_runner.specs.declared.ending.Ending.TheVariants.{Stopped, Shut, Refused, NoMemory}
use Rattle.hsr_runner.specs.declared.fault.RunFault.{RunFault}
use Rattle.hsr_runner.specs.declared.fault.RunFault.TheVariants as fault

-- how a worker ends whose node refused a copy
abbrev pub ending_of : StepFault → Ending
ending_of refused.NoMemory = NoMemory
ending_of fault = Refused fault

-- a worker ends by its gate only where that may shut, and by its node only where that refused a copy
abbrev pub IsEnding : ℕ → Bool → Ending → Type 0
IsEnding capacity may_shut Stopped = Unit {0}
IsEnding capacity may_shut Shut = may_shut ≡ true
IsEnding capacity may_shut (Refused fault) = IsRefusedCopy capacity fault
IsEnding capacity may_shut NoMemory = Unit {0}

-- why an order isn't done: it is refused, or an allocation failed
abbrev pub IsOrderEnd : ℕ → Topology → Order → WorldFault → Type 0
IsOrderEnd capacity topology o NoRoom = Unit {0}
IsOrderEnd capacity topology o fault = IsRefusedOrder capacity topology o fault

-- the same of what is planned
abbrev pub IsPlanEnd : ℕ → Topology → Planned → WorldFault → Type 0
IsPlanEnd capacity topology planned NoRoom = Unit {0}
IsPlanEnd capacity topology planned (Node fault) = IsRefusedEvent capacity planned.at planned.event fault
IsPlanEnd capacity topology planned fault = if_node topology planned.node ≡ Some fault

-- the main worker's order at an index isn't done
abbrev pub IsOwnEnd : ℕ → Meant → ℕ → WorldFault → Type 0
IsOwnEnd capacity s k fault = MatchOption (slice_get s.steps k) ⊥ (λ o. IsOrderEnd capacity s.topology o fault)

-- what is planned of an order is for a node that is there
abbrev pub FitsNode : Topology → Option Planned → Type 0
FitsNode topology None = Unit {0}
FitsNode topology (Some planned) = if_node topology planned.node ≡ None

-- the main worker ends after all steps, of which each fits; or at an index, or by its gate where that may shut
abbrev pub IsConducted : ℕ → Bool → Meant → Conducted → Type 0
IsConducted capacity may_shut s All = AllFit s.topology s.steps
IsConducted capacity may_shut s (Left k) = k ≤ length s.steps
IsConducted capacity may_shut s (Own k fault) = (k < length s.steps) × IsOwnEnd capacity s k fault
IsConducted capacity may_shut s conducted.Shut = may_shut ≡ true
IsConducted capacity may_shut s conducted.NoThread = Unit {0}
IsConducted capacity may_shut s conducted.NoMemory = Unit {0}

-- why there is no run where the main worker is at an index, and the lowest of the others that gave up ended so
abbrev pub worker_fault : ℕ → Ending → Option RunFault
worker_fault k Stopped = None
worker_fault k Shut = Some fault.GateShut
worker_fault k (Refused f) = Some (fault.Step k (Node f))
worker_fault k NoMemory = Some fault.NoMemory

-- Why there is no run where the main worker ended so, of `last` steps, and the lowest of the others: the main worker's reason first. It is
-- told to stop only by one that gave up.
abbrev pub fault_of : Conducted → Ending → ℕ → Option RunFault
fault_of All ending last = worker_fault last ending
fault_of (Left k) ending last = option_or (worker_fault k ending) (Some fault.Thread)
fault_of (Own k NoRoom) ending last = Some fault.NoMemory
fault_of (Own k f) ending last = Some (fault.Step k f)
fault_of conducted.Shut ending last = Some fault.GateShut
fault_of conducted.NoThread ending last = Some fault.Thread
fault_of conducted.NoMemory ending last = Some fault.NoMemory

-- no fine step is among the reasons, and a shut gate only where it may shut
abbrev pub IsPlayFault : ℕ → Bool → Meant → RunFault → Type 0
IsPlayFault capacity may_shut s (fault.FineStep k) = ⊥
IsPlayFault capacity may_shut s fault.GateShut = may_shut ≡ true
IsPlayFault capacity may_shut s f = IsRunFault capacity s f

-- what the closing check of these parts leaves: the first cause why they don't agree, or a failed allocation
abbrev pub IsCheckFault : ℕ → Topology → List Record → List (Vec Row Global) → List Receipts → List Planned → RunFault → Type 0
IsCheckFault capacity topology kept rows passes plan (fault.Check d) = IsFirst capacity topology kept rows passes plan d
IsCheckFault capacity topology kept rows passes plan fault.NoMemory = Unit {0}
IsCheckFault capacity topology kept rows passes plan _ = ⊥
