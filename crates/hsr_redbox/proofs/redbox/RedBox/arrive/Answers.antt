use Rattle.std.proofs.Common.{◌<◌, ◌≡◌, arith, subst}
use Rattle.hsr_frame.specs.Counters.{step_limit}
use Rattle.hsr_redbox.specs.Machine.{Machine}
use Rattle.hsr_redbox.specs.Step.{now_at}
use Rattle.hsr_redbox.specs.declared.call.BoxPort.TheVariants.{A, B, I}
use Rattle.hsr_redbox.proofs.Steps.{arrive-accepted, arrive-spent}
use Rattle.hsr_redbox.proofs.redbox.RedBox.arrive.Goals as goal

pub returns-then-self-eq-STEP_LIMIT : goal.returns-then-self-eq-STEP_LIMIT
returns-then-self-eq-STEP_LIMIT g c = rw (← c.self.view_is) (arrive-spent g.row.C _ c.args.at c.args.port c.args.octets.now c.if-self-eq-STEP_LIMIT.true)

pub returns-in-A : goal.returns-in-A
returns-in-A g c =
    let some : c.self.inside.accepted < step_limit = omega (arith, c.self.invariant.steps, c.if-self-eq-STEP_LIMIT.false) in
    rw c.in-A.is
    (arrive-accepted g.row.C c.args.self.now c.args.at A c.args.octets.now c.look_at-seen.result c.max-now.result c.from_ring.result c.from_ring.new.self
    (subst (λ (m : Machine). m.accepted < step_limit) c.self.view_is some) c.look_at-seen.ensures.exact
    (subst (λ (m : Machine). c.max-now.result ≡ now_at m c.args.at) c.self.view_is c.max-now.ensures) c.from_ring.ensures)

pub returns-in-B : goal.returns-in-B
returns-in-B g c =
    let some : c.self.inside.accepted < step_limit = omega (arith, c.self.invariant.steps, c.if-self-eq-STEP_LIMIT.false) in
    rw c.in-B.is
    (arrive-accepted g.row.C c.args.self.now c.args.at B c.args.octets.now c.look_at-seen.result c.max-now.result c.from_ring-in-B.result c.from_ring-in-B.new.self
    (subst (λ (m : Machine). m.accepted < step_limit) c.self.view_is some) c.look_at-seen.ensures.exact
    (subst (λ (m : Machine). c.max-now.result ≡ now_at m c.args.at) c.self.view_is c.max-now.ensures) c.from_ring-in-B.ensures)

pub returns-in-I : goal.returns-in-I
returns-in-I g c =
    let some : c.self.inside.accepted < step_limit = omega (arith, c.self.invariant.steps, c.if-self-eq-STEP_LIMIT.false) in
    rw c.in-I.is
    (arrive-accepted g.row.C c.args.self.now c.args.at I c.args.octets.now c.look_at-seen.result c.max-now.result c.from_interlink.result c.from_interlink.new.self
    (subst (λ (m : Machine). m.accepted < step_limit) c.self.view_is some) c.look_at-seen.ensures.exact
    (subst (λ (m : Machine). c.max-now.result ≡ now_at m c.args.at) c.self.view_is c.max-now.ensures) c.from_interlink.ensures)
