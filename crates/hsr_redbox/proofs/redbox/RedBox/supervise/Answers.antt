use Rattle.std.proofs.Common.{◌≡◌, ◌+◌, ◌%◌, [], ◌∷◌, subst, Ok, Some}
use Rattle.hsr_frame.specs.Egress.{a, b, exits_of}
use Rattle.hsr_frame.specs.declared.counters.Counters.{Counters}
use Rattle.hsr_forwarding.specs.Numbers.{number_range}
use Rattle.hsr_redbox.specs.Machine.{Machine}
use Rattle.hsr_redbox.specs.Step.{after_frame, life_step}
use Rattle.hsr_redbox.proofs.Steps.{life-accepted, life-refused}
use Rattle.hsr_redbox.proofs.redbox.RedBox.supervise.Goals as goal

pub returns-in-Some : goal.returns-in-Some
returns-in-Some g c = rw (← c.self.view_is) (life-refused g.row.C _ c.args.at c.args.about c.max-now.result c.in-Some.fault c.max-now.ensures c.in-Some.ensures.fault)

pub returns : goal.returns
returns g c =
    let machine : Machine = record { own = c.self.inside.own; mode = c.self.inside.mode; notes = c.self.inside.tables; proxies = c.self.inside.proxies; nodes = c.self.inside.nodes; next = c.self.inside.next; counters = c.self.inside.counters; moment = c.self.inside.moment; accepted = c.self.inside.accepted } in
    let counters : Counters = record c.self.inside.counters { life = c.self.inside.counters.life + 1 } in
    subst (λ (m : Machine). c.leave.new.self ≡ after_frame g.row.C m c.max-now.result (exits_of (a ∷ b ∷ [])) (Some c.self.inside.own) counters
    → (Ok (record { seq = c.self.inside.next; life = c.self.inside.counters.life % number_range }), c.leave.new.self) ≡ life_step g.row.C m c.args.at c.args.about) c.self.view_is
    (life-accepted g.row.C machine c.args.at c.args.about c.max-now.result c.leave.new.self c.max-now.ensures c.in_default.ensures.fault)
    (rw c.both_ports.ensures at c.leave.ensures)
