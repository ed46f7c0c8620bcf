-- Steps that are done one after another, and how they stop early.
use Rattle.std.specs.Prelude.{ℕ, zero, suc, ◌≡◌, ◌⊎◌, ◌<◌, List, [], ◌∷◌, Some, Ok, Err}
use Rattle.hsr_world_laws.specs.World.{World, Drains, next_step, tried}
use Rattle.hsr_world_steps.specs.declared.step.DrainFault.{DrainFault}
use Rattle.hsr_world_steps.specs.declared.step.DrainFault.TheVariants as fault
use Rattle.hsr_world_steps.specs.declared.step.Step.{Step}
use Rattle.hsr_world_steps.specs.declared.step.WorldFault.{WorldFault}
use Rattle.hsr_world_steps.specs.declared.step.WorldFault.TheVariants.{NoMemory}

-- a world refuses a step for this, or there is no memory
abbrev pub IsRefused : ℕ → World → Step → WorldFault → Type 0
IsRefused capacity w step f = (f ≡ NoMemory) ⊎ (tried capacity w step ≡ Err f)

-- all these steps are done, and lead from one world to another
abbrev pub Runs : ℕ → List Step → World → World → Type 0
Runs capacity [] w after = w ≡ after
Runs capacity (step ∷ steps) w after = (between : World) × (tried capacity w step ≡ Ok between) × Runs capacity steps between after

-- the steps before an index are done, and lead from one world to another, which refuses the step at that index
abbrev pub Stops : ℕ → List Step → ℕ → World → World → WorldFault → Type 0
Stops capacity [] n w after f = ⊥
Stops capacity (step ∷ steps) zero w after f = (after ≡ w) × IsRefused capacity w step f
Stops capacity (step ∷ steps) (suc n) w after f =
    (between : World) × (tried capacity w step ≡ Ok between) × Stops capacity steps n between after f

-- a drain did as many steps as allowed, and something is left; or it did fewer, and the next is refused
abbrev pub IsDrainFault : ℕ → World → World → ℕ → DrainFault → Type 0
IsDrainFault capacity old new limit fault.Unsettled = Drains capacity limit old new × ((step : Step) × (next_step new ≡ Some step))
IsDrainFault capacity old new limit (fault.World f) =
    (n : ℕ) × (n < limit) × Drains capacity n old new × ((step : Step) × (next_step new ≡ Some step) × IsRefused capacity new step f)
