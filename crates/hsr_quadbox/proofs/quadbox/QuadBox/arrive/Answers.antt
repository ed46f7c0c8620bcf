use Rattle.std.proofs.Common.{arith, ap, true, ◌≤◌, ◌∙◌}
use Rattle.hsr_forwarding.specs.Tables.{Notes, copies_of}
use Rattle.hsr_forwarding.specs.declared.judged.Judged.{Judged}
use Rattle.hsr_forwarding.proofs.Counts.{AreWithin-arrived}
use Rattle.hsr_forwarding.proofs.Keeping.{AreEarlier-within, AreRoomy-within, AreWithin-passed, passed-there}
use Rattle.hsr_quadbox.specs.Machine.{Machine}
use Rattle.hsr_quadbox.proofs.Steps.{arrive-accepted, arrive-spent, copies-few, wanted-among}
use Rattle.hsr_quadbox.proofs.quadbox.QuadBox.arrive.Goals as goal

pub returns-then-self-eq-STEP_LIMIT : goal.returns-then-self-eq-STEP_LIMIT
returns-then-self-eq-STEP_LIMIT g c = rw (← c.self.view_is)
    (arrive-spent g.row.C (record { notes = c.self.inside.tables; counters = c.self.inside.counters; moment = c.self.inside.moment; accepted = c.self.inside.accepted })
    c.args.at c.args.port c.args.octets.now c.if-self-eq-STEP_LIMIT.true)

pub judge-judged-requires : goal.judge-judged-requires
judge-judged-requires g c =
    let later : c.self.inside.moment ≤ c.max-now.result = omega (arith, c.max-now.ensures) in (
      omega arith,
      (
        rw (c.arrival_wants-wants.ensures, c.self.invariant.there) (wanted-among c.args.port c.look_at-seen.result),
        (
          AreEarlier-within c.self.inside.tables c.self.inside.moment c.max-now.result c.self.inside.accepted later c.self.invariant.notes,
          AreRoomy-within c.self.inside.tables c.self.inside.moment c.self.inside.accepted (omega (arith, c.self.invariant.steps, c.if-self-eq-STEP_LIMIT.false)) c.self.invariant.notes,
        ),
      ),
    )

pub count-requires-clause-few : goal.count-requires-clause-few
count-requires-clause-few g c =
    rw (ap (λ (o : Judged × Notes). o.0) c.judge-judged.ensures, c.arrival_wants-wants.ensures)
    (copies-few g.row.C c.self.inside.tables c.args.port c.look_at-seen.result c.max-now.result)

pub invariant_of-self : goal.invariant_of-self
invariant_of-self g c =
    let later : c.self.inside.moment ≤ c.max-now.result = omega (arith, c.max-now.ensures) in
    let exits = c.arrival_wants-wants.result.exits in
    let few : copies_of c.judge-judged.result.passes ≤ 3 = rw (ap (λ (o : Judged × Notes). o.0) c.judge-judged.ensures, c.arrival_wants-wants.ensures)
    (copies-few g.row.C c.self.inside.tables c.args.port c.look_at-seen.result c.max-now.result) in
    record {
      there = ap (λ (o : Judged × Notes). o.1.there) c.judge-judged.ensures ∙ passed-there g.row.C c.self.inside.tables exits c.look_at-seen.result c.max-now.result ∙ c.self.invariant.there;
      notes = rw (ap (λ (o : Judged × Notes). o.1) c.judge-judged.ensures)
          (AreWithin-passed g.row.C c.self.inside.tables exits c.look_at-seen.result c.self.inside.moment c.max-now.result c.self.inside.accepted later c.self.invariant.notes);
      steps = omega (arith, c.self.invariant.steps, c.if-self-eq-STEP_LIMIT.false);
      counters = rw c.count.ensures (AreWithin-arrived c.self.inside.counters c.judge-judged.result true c.self.inside.accepted few c.self.invariant.counters);
    }

pub returns : goal.returns
returns g c =
    let machine : Machine = record { notes = c.self.inside.tables; counters = c.self.inside.counters; moment = c.self.inside.moment; accepted = c.self.inside.accepted } in
    let judged = rw (c.arrival_wants-wants.ensures, c.look_at-seen.ensures.exact, c.max-now.ensures) at c.judge-judged.ensures in
    rw (← c.self.view_is, c.verdict_of.ensures, c.max-now.ensures)
    (arrive-accepted g.row.C machine c.args.at c.args.port c.args.octets.now c.judge-judged.result c.judge-judged.new.self c.count.new.counters
    (omega (arith, c.self.invariant.steps, c.if-self-eq-STEP_LIMIT.false)) judged c.count.ensures)
