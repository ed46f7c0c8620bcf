use Rattle.std.proofs.Common.{subst}
use Rattle.hsr_world_laws.specs.Lawful.{IsLawful}
use Rattle.hsr_world_laws.specs.World.{World}
use Rattle.hsr_world_laws.proofs.Lawful.{lawful}
use Rattle.hsr_ring.proofs.world.World.is_lawful.Goals as goal

pub returns : goal.returns
returns g c =
    subst (λ (w : World). IsLawful g.row.C w) c.self.view_is
    (lawful g.row.C c.self.inside.topology.places c.self.inside.topology.links c.self.inside.running c.places.ensures.wired c.self.invariant.reached)
