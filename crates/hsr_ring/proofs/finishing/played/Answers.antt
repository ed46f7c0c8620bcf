use Rattle.std.proofs.Common.{subst, sym}
use Rattle.hsr_world_laws.specs.World.{World}
use Rattle.hsr_ring.specs.Finishing.{IsUnfinishedBy}
use Rattle.hsr_ring.specs.Playing.{Halts}
use Rattle.hsr_ring.proofs.Halted.{halted_so}
use Rattle.hsr_ring.proofs.finishing.played.Goals as goal

pub returns-in-Err-clause-err : goal.returns-in-Err-clause-err
returns-in-Err-clause-err g c =
    let orders = c.args.orders.now in
    let after = c.play.new.world in
    let from : World → Type 0 = λ w. Halts g.row.C orders c.in-Err.index w after c.in-Err.fault in
    subst (IsUnfinishedBy g.row.C c.args.topology c.args.capacity orders) (sym c.halted.ensures)
    (halted_so g.row.C c.args.topology c.args.capacity orders c.in-Err.index after c.in-Err.fault (subst from c.in-Ok.ensures c.in-Err.ensures.err))
