-- What a finished run is of a scenario.
use Rattle.std.specs.Prelude.{ℕ, ◌≡◌, List}
use Rattle.hsr_topology.specs.Topology.{Topology}
use Rattle.hsr_finished_run.specs.declared.planned.Planned.{Planned}
use Rattle.hsr_finished_run.specs.Finished.{Finished, IsFinished}
use Rattle.hsr_scenario.specs.Meaning.{Meant}
use Rattle.hsr_runner.specs.Plan.{plan_of}

-- a finished run, whose tables have `capacity` entries, of these nodes and links, with this plan
pub record IsRunWith (capacity : ℕ) (topology : Topology) (planned : List Planned) (f : Finished) : Type 0 where
  pub finished : IsFinished f
  pub tables : f.run.capacity ≡ capacity
  pub places : f.run.places ≡ topology.places
  pub links : f.run.links ≡ topology.links
  pub plan : f.plan ≡ planned

-- a finished run of a scenario: its nodes and links are the scenario's, and what the main worker brought about is the scenario's plan
abbrev pub IsRunOf : ℕ → Meant → Finished → Type 0
IsRunOf capacity s f = IsRunWith capacity s.topology (plan_of s.steps) f
