-- Why orders lead to no finished run, where one is refused.
use Rattle.std.proofs.Common.{ℕ, List}
use Rattle.hsr_scenario.specs.declared.steps.Order.{Order}
use Rattle.hsr_topology.specs.Topology.{Topology}
use Rattle.hsr_world_laws.specs.World.{World, new_world}
use Rattle.hsr_world_steps.specs.declared.step.DrainFault.{DrainFault}
use Rattle.hsr_world_steps.specs.declared.step.DrainFault.TheVariants as drain
use Rattle.hsr_world_steps.specs.declared.step.WorldFault.TheVariants as world
use Rattle.hsr_ring.specs.Finishing.{IsUnfinishedBy, halted}
use Rattle.hsr_ring.specs.Playing.{Halts}

pub halted_so : (capacity : ℕ) (topology : Topology) (room : ℕ) (orders : List Order) (index : ℕ) (w : World) (f : DrainFault)
    → Halts capacity orders index (new_world room topology.places topology.links) w f → IsUnfinishedBy capacity topology room orders (halted index f)
halted_so capacity topology room orders index w drain.Unsettled h = (w, h)
halted_so capacity topology room orders index w (drain.World world.NoMemory) h = tt
halted_so capacity topology room orders index w (drain.World world.NoSuchNode) h = (w, h)
halted_so capacity topology room orders index w (drain.World world.NoSuchLink) h = (w, h)
halted_so capacity topology room orders index w (drain.World world.NoSuchPort) h = (w, h)
halted_so capacity topology room orders index w (drain.World world.Busy) h = (w, h)
halted_so capacity topology room orders index w (drain.World world.Nothing) h = (w, h)
halted_so capacity topology room orders index w (drain.World world.TooLong) h = (w, h)
halted_so capacity topology room orders index w (drain.World (world.Node f)) h = (w, h)
