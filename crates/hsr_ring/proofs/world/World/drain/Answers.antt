use Rattle.std.proofs.Common.{◌≡◌, sym, arith}
use Rattle.hsr_ring.specs.Pending.{step_of}
use Rattle.hsr_ring.proofs.Stopped.{drain_refused, drained_all, one_turn, so_far}
use Rattle.hsr_ring.proofs.world.World.drain.Goals as goal

pub returns-in_default-clause-ok : goal.returns-in_default-clause-ok
returns-in_default-clause-ok g c = (omega arith, sym c.in_default.ensures, so_far g.row.C c.loop-done.done c.loop-done.self c.args.self.now c.loop-done.invariant)

pub loop-done-preserved : goal.loop-done-preserved
loop-done-preserved g c =
    one_turn g.row.C c.loop-done.done c.loop-done.self c.go.new.self c.args.self.now (step_of c.in-Some.moved) (sym c.in-Some.ensures) c.in-Ok.ensures.ok c.loop-done.invariant

pub returns-in-Err-clause-err : goal.returns-in-Err-clause-err
returns-in-Err-clause-err g c =
    drain_refused g.row.C c.args.self.now c.loop-done.self c.go.new.self c.args.limit c.loop-done.done (step_of c.in-Some.moved) c.in-Err.fault (sym c.in-Some.ensures)
    c.in-Err.ensures.err.0 c.in-Err.ensures.err.1 c.loop-done-test.true (so_far g.row.C c.loop-done.done c.loop-done.self c.args.self.now c.loop-done.invariant)

pub returns-in_default-next-clause-ok : goal.returns-in_default-next-clause-ok
returns-in_default-next-clause-ok g c =
    let all : c.loop-done.done ≡ c.args.limit = omega arith in (
      omega arith,
      sym c.in_default-next.ensures,
      drained_all g.row.C c.loop-done.done c.args.limit c.args.self.now c.loop-done.self all (so_far g.row.C c.loop-done.done c.loop-done.self c.args.self.now c.loop-done.invariant),
    )

pub returns-clause-err : goal.returns-clause-err
returns-clause-err g c =
    let all : c.loop-done.done ≡ c.args.limit = omega arith in (
      drained_all g.row.C c.loop-done.done c.args.limit c.args.self.now c.loop-done.self all (so_far g.row.C c.loop-done.done c.loop-done.self c.args.self.now c.loop-done.invariant),
      (step_of c.in-Some-next.field-0, sym c.in-Some-next.ensures),
    )
