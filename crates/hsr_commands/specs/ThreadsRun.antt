-- What `threads` tells of a scenario.
--     run_fault    why there is no run, as a fault of the program
--     IsNoRun      why there is no run of a scenario whose steps threads can do
--     ThreadsEnds  how a run ends, and what it wrote
use Rattle.std.specs.Prelude.{ℕ, ◌≡◌, List, Option, None, Some, Ok, Err, position}
use Rattle.hsr_finished_run.specs.Finished.{Finished}
use Rattle.hsr_runner.specs.Brought.{InjectsNothing, NoneIsAlien}
use Rattle.hsr_runner.specs.Faults.{AllFit, IsRunFault}
use Rattle.hsr_runner.specs.Plan.{is_fine}
use Rattle.hsr_runner.specs.Runs.{IsRunOf}
use Rattle.hsr_runner.specs.declared.fault.RunFault.{RunFault}
use Rattle.hsr_runner.specs.declared.fault.RunFault.TheVariants as run
use Rattle.hsr_scenario.specs.Meaning.{Meant}
use Rattle.hsr_world_steps.specs.declared.step.DrainFault.TheVariants as drain
use Rattle.hsr_world_steps.specs.declared.step.WorldFault.TheVariants as world
use Rattle.hsr_commands.specs.Ending.{Ends}
use Rattle.hsr_commands.specs.Fault.{step_fault}
use Rattle.hsr_commands.specs.Reading.{Said}
use Rattle.hsr_commands.specs.Naming.{Named}
use Rattle.hsr_commands.specs.Shown.{IsShownOf, Outputs}
use Rattle.hsr_commands.specs.declared.shown.ShownRun.{ShownRun}
use Rattle.hsr_options.specs.declared.chosen.Showing.{Showing}
use Rattle.hsr_commands.specs.declared.fault.Fault.{Fault}
use Rattle.hsr_commands.specs.declared.fault.Fault.TheVariants.{Scenario, Step, Fine, Check, Memory, Thread, Gate}
use Rattle.hsr_commands.specs.declared.fault.Status.{Status}

-- why there is no run, as a fault of the program
abbrev pub run_fault : RunFault → Fault
run_fault (run.FineStep step) = Fine step
run_fault (run.Step step fault) = step_fault step (drain.World fault)
run_fault run.GateShut = Gate
run_fault run.Thread = Thread
run_fault (run.Check disagree) = Check disagree
run_fault run.NoMemory = Memory

-- There is a scenario, in which no step moves or judges one copy, and this is why it has no run.
abbrev pub IsNoRun : ℕ → Said → RunFault → Type 0
IsNoRun capacity said fault = (meant : Meant) × (said ≡ Ok meant) × (position is_fine meant.steps ≡ None) × IsRunFault capacity meant fault

-- There is no scenario; or some of its steps move or judge one copy, and the first of these is named; or it has no run. A failed allocation
-- is a fault of memory, and of no step; a drain has no limit, and no gate shuts.
abbrev pub IsUnrun : ℕ → Said → Fault → Type 0
IsUnrun capacity said (Scenario fault) = said ≡ Err fault
IsUnrun capacity said (Fine step) = (meant : Meant) × (said ≡ Ok meant) × (position is_fine meant.steps ≡ Some step)
IsUnrun capacity said (Step step (drain.World world.NoMemory)) = ⊥
IsUnrun capacity said (Step step (drain.World fault)) = IsNoRun capacity said (run.Step step fault)
IsUnrun capacity said (Check disagree) = IsNoRun capacity said (run.Check disagree)
IsUnrun capacity said Thread = IsNoRun capacity said run.Thread
IsUnrun capacity said Memory = Unit {0}
IsUnrun capacity said _ = ⊥

-- A finished run of the scenario, whatever came first in it; no step of that moves or judges one copy, or injects, and each names a node
-- or link that is there. Each entry is of the main worker, or an arrival of the worker of its port, or an age of its node's ager.
pub record IsRan (capacity : ℕ) (said : Said) (f : Finished) : Type 0 where
  pub meant : Meant
  pub means : said ≡ Ok meant
  pub orderly : position is_fine meant.steps ≡ None
  pub fits : AllFit meant.topology meant.steps
  pub injected : InjectsNothing meant.steps
  pub is_run : IsRunOf capacity meant f
  pub brought : NoneIsAlien f.run

-- this is shown of such a run
pub record IsRunShown (capacity : ℕ) (showing : Showing) (folder : Option (List ℕ)) (said : Said) (named : Named) (shown : ShownRun) : Type 0 where
  pub finished : Finished
  pub is_run : IsRan capacity said finished
  pub is_shown : IsShownOf showing named folder finished shown

-- How `threads` ends, and what it wrote: the transcript or the report of some finished run of the scenario, and its tables where a folder
-- is given; or nothing, since there is none, or reading or memory failed. Of a failed write no more is said than that there was something
-- to write.
abbrev pub ThreadsEnds : ℕ → Showing → Option (List ℕ) → Said → Named → Outputs → Outputs → Status → Type 0
ThreadsEnds capacity showing folder said named = Ends (IsRunShown capacity showing folder said named) (IsUnrun capacity said) folder
