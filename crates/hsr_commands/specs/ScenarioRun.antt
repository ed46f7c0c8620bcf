-- What `run` tells of a scenario.
use Rattle.std.specs.Prelude.{ℕ, ◌≡◌, List, Option, Ok, Err}
use Rattle.hsr_finished_run.specs.Checked.{IsOpen}
use Rattle.hsr_finished_run.specs.declared.disagree.Disagree.{Disagree}
use Rattle.hsr_world_laws.specs.Lawful.{IsEnded, finished_of}
use Rattle.hsr_world_laws.specs.World.{World, new_world}
use Rattle.hsr_world_steps.specs.declared.step.DrainFault.TheVariants as drain
use Rattle.hsr_world_steps.specs.declared.step.WorldFault.TheVariants as world
use Rattle.hsr_scenario.specs.Meaning.{Meant}
use Rattle.hsr_commands.specs.Ending.{Ends}
use Rattle.hsr_ring.specs.Playing.{Halts, Plays}
use Rattle.hsr_commands.specs.Reading.{Said}
use Rattle.hsr_commands.specs.Naming.{Named}
use Rattle.hsr_commands.specs.Shown.{IsShownOf, Outputs}
use Rattle.hsr_commands.specs.declared.shown.ShownRun.{ShownRun}
use Rattle.hsr_options.specs.declared.chosen.Showing.{Showing}
use Rattle.hsr_commands.specs.declared.fault.Fault.{Fault}
use Rattle.hsr_commands.specs.declared.fault.Fault.TheVariants.{Scenario, Step, Check, Memory}
use Rattle.hsr_commands.specs.declared.fault.Status.{Status}

-- ---- the scenario, played

-- the world with which a scenario begins
abbrev pub first_of : Meant → World
first_of meant = new_world meant.capacity meant.topology.places meant.topology.links

-- the scenario is played, and leads to this world
pub record IsPlayed (capacity : ℕ) (said : Said) (w : World) : Type 0 where
  pub meant : Meant
  pub means : said ≡ Ok meant
  pub plays : Plays capacity meant.steps (first_of meant) w

-- there is no scenario, or one of its steps is refused
abbrev pub IsUnplayed : ℕ → Said → Fault → Type 0
IsUnplayed capacity said (Scenario fault) = said ≡ Err fault
-- a failed allocation is a fault of memory, and of no step
IsUnplayed capacity said (Step step (drain.World world.NoMemory)) = ⊥
IsUnplayed capacity said (Step step fault) =
    (meant : Meant) × (said ≡ Ok meant) × (after : World) × Halts capacity meant.steps step (first_of meant) after fault
IsUnplayed capacity said Memory = Unit {0}
IsUnplayed capacity said _ = ⊥

-- a world can't be closed, for the first cause
abbrev pub StaysOpen : ℕ → World → Disagree → Type 0
StaysOpen capacity w disagree = (¬ IsEnded w) × IsOpen (finished_of capacity w).run disagree

abbrev pub IsUnclosed : ℕ → World → Fault → Type 0
IsUnclosed capacity w (Check disagree) = StaysOpen capacity w disagree
IsUnclosed capacity w Memory = Unit {0}
IsUnclosed capacity w _ = ⊥

-- ---- what was found

-- the scenario is played, its world ends and is a finished run, of which this is shown
pub record IsReported (capacity : ℕ) (showing : Showing) (folder : Option (List ℕ)) (said : Said) (named : Named) (shown : ShownRun) : Type 0 where
  pub world : World
  pub played : IsPlayed capacity said world
  pub ended : IsEnded world
  pub is_shown : IsShownOf showing named folder (finished_of capacity world) shown

-- there is nothing to report: no scenario, or a step that is refused, or a world that can't be closed
abbrev pub IsUnreported : ℕ → Said → Fault → Type 0
IsUnreported capacity said (Check disagree) = (w : World) × IsPlayed capacity said w × StaysOpen capacity w disagree
IsUnreported capacity said fault = IsUnplayed capacity said fault

-- How `run` ends, and what it wrote: the transcript or the report of the run, and its tables where a folder is given; or nothing, since
-- there is none, or reading or memory failed. Of a failed write no more is said than that there was something to write.
abbrev pub ScenarioEnds : ℕ → Showing → Option (List ℕ) → Said → Named → Outputs → Outputs → Status → Type 0
ScenarioEnds capacity showing folder said named = Ends (IsReported capacity showing folder said named) (IsUnreported capacity said) folder
