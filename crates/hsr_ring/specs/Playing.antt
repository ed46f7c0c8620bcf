-- What the orders of a scenario make of a world.
use Rattle.std.specs.Prelude.{ℕ, zero, suc, ◌≡◌, ◌≤◌, List, [], ◌∷◌, None, Ok}
use Rattle.hsr_ring.specs.Stopping.{IsDrainFault, IsRefused}
use Rattle.hsr_world_laws.specs.World.{World, Drains, next_step, tried}
use Rattle.hsr_world_steps.specs.declared.step.DrainFault.{DrainFault}
use Rattle.hsr_world_steps.specs.declared.step.DrainFault.TheVariants as fault
use Rattle.hsr_scenario.specs.declared.steps.Order.{Order}
use Rattle.hsr_scenario.specs.declared.steps.Order.TheVariants.{Step, Drain}

-- how many steps a drain may take
unfoldable pub drain_limit : ℕ
drain_limit = 1000000

-- an order leads from one world to another: its step is done, or its drain left nothing to do
abbrev pub Obeys : ℕ → Order → World → World → Type 0
Obeys capacity (Step step) w after = tried capacity w step ≡ Ok after
Obeys capacity Drain w after = (n : ℕ) × (n ≤ drain_limit) × (next_step after ≡ None) × Drains capacity n w after

-- the world refuses an order; a drain's steps before the refusal are done
abbrev pub Refuses : ℕ → Order → World → World → DrainFault → Type 0
Refuses capacity (Step step) w after fault.Unsettled = ⊥
Refuses capacity (Step step) w after (fault.World f) = (after ≡ w) × IsRefused capacity w step f
Refuses capacity Drain w after f = IsDrainFault capacity w after drain_limit f

-- all these orders are obeyed, one after another
abbrev pub Plays : ℕ → List Order → World → World → Type 0
Plays capacity [] w after = w ≡ after
Plays capacity (order ∷ orders) w after = (between : World) × Obeys capacity order w between × Plays capacity orders between after

-- the orders before an index are obeyed, and the one at that index is refused
abbrev pub Halts : ℕ → List Order → ℕ → World → World → DrainFault → Type 0
Halts capacity [] n w after f = ⊥
Halts capacity (order ∷ orders) zero w after f = Refuses capacity order w after f
Halts capacity (order ∷ orders) (suc n) w after f = (between : World) × Obeys capacity order w between × Halts capacity orders n between after f
