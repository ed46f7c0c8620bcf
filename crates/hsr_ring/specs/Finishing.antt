-- The finished run that orders lead to, and why there is none.
use Rattle.std.specs.Prelude.{ℕ, ◌≡◌, List}
use Rattle.hsr_finished_run.specs.Checked.{IsOpen}
use Rattle.hsr_finished_run.specs.Finished.{Finished}
use Rattle.hsr_scenario.specs.declared.steps.Order.{Order}
use Rattle.hsr_topology.specs.Topology.{Topology}
use Rattle.hsr_world_laws.specs.Lawful.{IsEnded, finished_of}
use Rattle.hsr_world_laws.specs.World.{World, new_world}
use Rattle.hsr_world_steps.specs.declared.step.DrainFault.{DrainFault}
use Rattle.hsr_world_steps.specs.declared.step.DrainFault.TheVariants as fault
use Rattle.hsr_world_steps.specs.declared.step.WorldFault.TheVariants.{NoMemory}
use Rattle.hsr_ring.specs.Playing.{Halts, Plays}
use Rattle.hsr_ring.specs.declared.finishing.Unfinished.{Unfinished}
use Rattle.hsr_ring.specs.declared.finishing.Unfinished.TheVariants.{Step, Check, Memory}

-- all these orders are obeyed in a new world of the topology, where `room` copies wait on a link: this is the finished run that it then is
pub record IsFinishedBy (capacity : ℕ) (topology : Topology) (room : ℕ) (orders : List Order) (run : Finished) : Type 0 where
  pub world : World
  pub plays : Plays capacity orders (new_world room topology.places topology.links) world
  pub ended : IsEnded world
  pub is : run ≡ finished_of capacity world

-- an order that is refused for memory isn't told as refused: an allocation failed
abbrev pub halted : ℕ → DrainFault → Unfinished
halted index (fault.World NoMemory) = Memory
halted index f = Step index f

-- the orders before an index are obeyed in that world, and the one at that index is refused, not for memory; or all are obeyed, and the
-- world that they lead to isn't closed, with the first cause; or an allocation failed
abbrev pub IsUnfinishedBy : ℕ → Topology → ℕ → List Order → Unfinished → Type 0
IsUnfinishedBy capacity topology room orders (Step index (fault.World NoMemory)) = ⊥
IsUnfinishedBy capacity topology room orders (Step index f) = (w : World) × Halts capacity orders index (new_world room topology.places topology.links) w f
IsUnfinishedBy capacity topology room orders (Check d) =
    (w : World) × Plays capacity orders (new_world room topology.places topology.links) w × IsOpen (finished_of capacity w).run d
IsUnfinishedBy capacity topology room orders Memory = Unit {0}
