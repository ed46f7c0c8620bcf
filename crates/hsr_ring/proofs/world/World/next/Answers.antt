use Rattle.std.proofs.Common.{ap, option_map, ◌∙◌}
use Rattle.hsr_ring.specs.Pending.{step_of}
use Rattle.hsr_world_laws.specs.World.{World, next_step}
use Rattle.hsr_ring.proofs.Next.{next_is}
use Rattle.hsr_ring.proofs.world.World.next.Goals as goal

pub returns : goal.returns
returns g c =
    let own = c.self.inside in
    next_is own.running own.ports.items own.pending (option_map step_of c.next.result) c.self.invariant.told c.self.invariant.few c.self.invariant.pending c.next.ensures ∙ ap (λ (w : World). next_step w) c.self.view_is
