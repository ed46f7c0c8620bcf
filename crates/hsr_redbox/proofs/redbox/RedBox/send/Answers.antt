use Rattle.std.proofs.Common.{◌≡◌, ◌+◌, length, subst, Ok, arith}
use Rattle.hsr_frame.specs.declared.counters.Counters.{Counters}
use Rattle.hsr_redbox.specs.Machine.{Machine}
use Rattle.hsr_redbox.specs.Step.{after_frame, send_step, sent_of}
use Rattle.hsr_tables.specs.Proxies.{is_known}
use Rattle.hsr_redbox.proofs.Steps.{send-accepted, send-fits, send-refused}
use Rattle.hsr_redbox.proofs.redbox.RedBox.send.Goals as goal

pub returns-in-Some-clause-step : goal.returns-in-Some-clause-step
returns-in-Some-clause-step g c =
    rw (← c.self.view_is) (send-refused g.row.C _ c.args.at c.args.dst c.args.ethertype (length c.args.payload.now) c.in-Some.fault c.in-Some.ensures.fault)

pub leave-requires : goal.leave-requires
leave-requires g c = rw (← c.self.view_is) (
  omega arith,
  (
    omega (arith, c.in_default.ensures.room),
    (
      omega (arith, c.max-now.ensures),
      (
        rw c.send_handling-handling.ensures (send-fits c.self.inside.own (is_known c.max-now.result c.self.inside.proxies.heard) c.args.dst c.args.ethertype).0,
        record { up = omega (arith, c.self.invariant.counters.up); forwarded = omega (arith, c.self.invariant.counters.forwarded); others = omega (arith, c.self.invariant.counters.others) },
      ),
    ),
  ),
)

pub returns-clause-step : goal.returns-clause-step
returns-clause-step g c =
    let machine : Machine = record { own = c.self.inside.own; mode = c.self.inside.mode; notes = c.self.inside.tables; proxies = c.self.inside.proxies; nodes = c.self.inside.nodes; next = c.self.inside.next; counters = c.self.inside.counters; moment = c.self.inside.moment; accepted = c.self.inside.accepted } in
    let h = c.send_handling-handling.result in
    let counters : Counters = record c.self.inside.counters { sent = c.self.inside.counters.sent + 1 } in
    rw c.number_of.ensures
    (subst (λ (m : Machine). c.leave.new.self ≡ after_frame g.row.C m c.max-now.result h.wants.exits h.source counters → (Ok (sent_of h c.self.inside.next), c.leave.new.self) ≡ send_step g.row.C m c.args.at c.args.dst c.args.ethertype (length c.args.payload.now)) c.self.view_is
    (send-accepted g.row.C machine c.args.at c.args.dst c.args.ethertype (length c.args.payload.now) c.max-now.result h c.leave.new.self
    c.in_default.ensures.fault c.max-now.ensures c.send_handling-handling.ensures)
    c.leave.ensures)
