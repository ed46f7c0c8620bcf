use Rattle.std.proofs.Common.{length}
use Rattle.hsr_danh.specs.Machine.{Machine}
use Rattle.hsr_danh.proofs.Steps.{send-accepted, send-refused}
use Rattle.hsr_danh.proofs.danh.Danh.send.Goals as goal

pub returns-in-Some-clause-step : goal.returns-in-Some-clause-step
returns-in-Some-clause-step g c =
    rw (← c.self.view_is) (send-refused g.row.C _ c.args.at c.args.dst c.args.ethertype (length c.args.payload.now) c.in-Some.fault c.in-Some.ensures.fault)

pub returns-clause-step : goal.returns-clause-step
returns-clause-step g c =
    let machine : Machine = record { own = c.self.inside.own; mode = c.self.inside.mode; notes = c.self.inside.tables; nodes = c.self.inside.nodes; next = c.self.inside.next; counters = c.self.inside.counters; moment = c.self.inside.moment; accepted = c.self.inside.accepted } in
    rw (← c.self.view_is) (send-accepted g.row.C machine c.args.at c.args.dst c.args.ethertype (length c.args.payload.now) c.mark.new.self c.max-now.result
    c.in_default.ensures.fault c.max-now.ensures (rw c.both_ports.ensures at c.mark.ensures))
