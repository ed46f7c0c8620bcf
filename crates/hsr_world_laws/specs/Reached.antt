-- Worlds that began with nothing done.
use Rattle.std.specs.Prelude.{ℕ, ◌≡◌, List}
use Rattle.std.specs.List.{All, AllByRecursion}
use Rattle.hsr_topology.specs.declared.end.End.{End}
use Rattle.hsr_node.specs.declared.place.Place.{Place}
use Rattle.hsr_world_laws.specs.Fit.{FitsPlace, FitsStep}
use Rattle.hsr_world_laws.specs.World.{World, new_world, run}
use Rattle.hsr_world_steps.specs.declared.step.Step.{Step}

-- a world of these nodes and links, after some steps from the first one on, all as the types of the code are
pub record IsReached (capacity : ℕ) (places : List Place) (links : List (List End)) (w : World) : Type 0 where
  pub room : ℕ
  pub steps : List Step
  pub is : run capacity steps (new_world room places links) ≡ w
  pub fit_places : All FitsPlace places
  pub fit_steps : AllByRecursion FitsStep steps
