use Rattle.std.proofs.Common.{arith}
use Rattle.hsr_danh.specs.Machine.{Machine}
use Rattle.hsr_danh.proofs.Steps.{life-accepted, life-spent}
use Rattle.hsr_danh.proofs.danh.Danh.supervise.Goals as goal

pub returns-then-self-eq-STEP_LIMIT : goal.returns-then-self-eq-STEP_LIMIT
returns-then-self-eq-STEP_LIMIT g c = rw (← c.self.view_is) (life-spent g.row.C _ c.args.at c.if-self-eq-STEP_LIMIT.true)

pub returns : goal.returns
returns g c =
    let machine : Machine = record { own = c.self.inside.own; mode = c.self.inside.mode; notes = c.self.inside.tables; nodes = c.self.inside.nodes; next = c.self.inside.next; counters = c.self.inside.counters; moment = c.self.inside.moment; accepted = c.self.inside.accepted } in
    rw (← c.self.view_is) (life-accepted g.row.C machine c.args.at c.mark.new.self c.max-now.result
    (omega (arith, c.self.invariant.steps, c.if-self-eq-STEP_LIMIT.false)) c.max-now.ensures (rw c.both_ports.ensures at c.mark.ensures))
