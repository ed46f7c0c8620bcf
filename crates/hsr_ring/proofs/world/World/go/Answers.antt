use Rattle.std.proofs.Common.{List, arith, map, subst, sym}
use Rattle.hsr_ring.specs.Pending.{AreLooked, AreOfSenders, IsKept, step_of}
use Rattle.hsr_world_links.specs.declared.port.Port.{Port}
use Rattle.hsr_world_laws.specs.World.{World}
use Rattle.hsr_ring.proofs.Looked.{fits_move, kept_done, of_senders}
use Rattle.hsr_ring.proofs.world.World.go.Goals as goal

-- it was made
pub invariant_of-self : goal.invariant_of-self
invariant_of-self g c =
    let own = c.self.inside in
    kept_done g.row.C own.topology.places own.topology.links own.ports.items (map (λ links. links.items) own.touching.items) own.running c.go.new.self (step_of c.args.moved) own.pending c.look_moved.new.pending c.in-Ok.ensures.ok (fits_move c.args.moved)
    (subst (λ (ports : List Port). AreLooked ports c.go.new.self.spans (step_of c.args.moved) own.pending c.look_moved.new.pending) c.deref-in-Ok.ensures.value c.look_moved.ensures) c.self.invariant

-- it was refused, and changed nothing
pub invariant_of-self-in-Err : goal.invariant_of-self-in-Err
invariant_of-self-in-Err g c =
    let own = c.self.inside in
    subst (λ (w : World). IsKept g.row.C own.topology.places own.topology.links own.ports.items (map (λ links. links.items) own.touching.items) own.pending w) (sym c.in-Err.ensures.err.0) c.self.invariant

pub look_moved-requires : goal.look_moved-requires
look_moved-requires g c =
    let own = c.self.inside in (
      omega arith,
      subst (λ (ports : List Port). AreOfSenders ports own.pending.waiting) (sym c.deref-in-Ok.ensures.value)
          (of_senders own.running.places own.ports.items own.running.spans own.pending c.self.invariant.told c.self.invariant.pending),
    )
