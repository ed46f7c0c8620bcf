-- A world that was reached goes on to be one, and is lawful.
use Rattle.std.proofs.Common.{◌≡◌, ℕ, List, [], ◌∷◌, ◌++◌, Result, Ok, refl, ap, ◌∙◌}
use Rattle.hsr_topology.specs.declared.end.End.{End}
use Rattle.hsr_node.specs.declared.place.Place.{Place}
use Rattle.std.specs.List.{All}
use Rattle.hsr_world_laws.specs.Fit.{FitsPlace, FitsStep}
use Rattle.hsr_world_laws.specs.Reached.{IsReached}
use Rattle.hsr_world_laws.specs.World.{World, new_world, or_same, run, tried}
use Rattle.hsr_world_steps.specs.declared.step.Step.{Step}
use Rattle.hsr_world_steps.specs.declared.step.WorldFault.{WorldFault}
use Rattle.hsr_world_laws.proofs.FitFrames.{fit_last}

run-last : (capacity : ℕ) (steps : List Step) (w : World) (step : Step)
    → run capacity (steps ++ step ∷ []) w ≡ or_same (run capacity steps w) (tried capacity (run capacity steps w) step)
run-last capacity [] w step = refl
run-last capacity (first ∷ steps) w step = run-last capacity steps (or_same w (tried capacity w first)) step

pub reached-new : (capacity room : ℕ) (places : List Place) (links : List (List End)) → All FitsPlace places → IsReached capacity places links (new_world room places links)
reached-new capacity room places links fit = record { room = room; steps = []; is = refl; fit_places = fit; fit_steps = tt }

pub reached-step : (capacity : ℕ) (places : List Place) (links : List (List End)) (w after : World) (step : Step) → tried capacity w step ≡ Ok after
    → FitsStep step → IsReached capacity places links w → IsReached capacity places links after
reached-step capacity places links w after step done fit r = record {
  room = r.room;
  steps = r.steps ++ step ∷ [];
  is = run-last capacity r.steps (new_world r.room places links) step
      ∙ ap (λ (v : World). or_same v (tried capacity v step)) r.is
      ∙ ap (λ (result : Result World WorldFault). or_same w result) done;
  fit_places = r.fit_places;
  fit_steps = fit_last r.steps step r.fit_steps fit;
}
