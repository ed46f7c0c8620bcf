use Rattle.std.proofs.Common.{Bool, ◌≤◌, None, ap, ◌∙◌, arith}
use Rattle.hsr_tables.specs.Nodes.{Nodes}
use Rattle.hsr_forwarding.specs.Tables.{Notes, copies_of}
use Rattle.hsr_forwarding.specs.declared.judged.Judged.{Judged}
use Rattle.hsr_forwarding.proofs.Arrivals.{heard_of-last}
use Rattle.hsr_forwarding.proofs.Counts.{AreWithin-arrived}
use Rattle.hsr_forwarding.proofs.Keeping.{AreEarlier-within, AreRoomy-within, AreWithin-passed, passed-there}
use Rattle.hsr_forwarding.proofs.Wants.{wanted-among, wanted-few}
use Rattle.hsr_danh.specs.Machine.{Machine}
use Rattle.hsr_danh.proofs.Steps.{arrive-accepted, arrive-spent}
use Rattle.hsr_danh.proofs.danh.Danh.arrive.Goals as goal

pub returns-then-self-eq-STEP_LIMIT : goal.returns-then-self-eq-STEP_LIMIT
returns-then-self-eq-STEP_LIMIT g c = rw (← c.self.view_is) (arrive-spent g.row.C _ c.args.at c.args.port c.args.octets.now c.if-self-eq-STEP_LIMIT.true)

pub judge-judged-requires : goal.judge-judged-requires
judge-judged-requires g c =
    let later : c.self.inside.moment ≤ c.max-now.result = omega (arith, c.max-now.ensures) in (
      omega arith,
      (
        rw (c.ring_wants-wants.ensures, c.self.invariant.there) (wanted-among c.self.inside.own c.self.inside.mode None c.args.port c.look_at-seen.result),
        (
          AreEarlier-within c.self.inside.tables c.self.inside.moment c.max-now.result c.self.inside.accepted later c.self.invariant.notes,
          AreRoomy-within c.self.inside.tables c.self.inside.moment c.self.inside.accepted (omega (arith, c.self.invariant.steps, c.if-self-eq-STEP_LIMIT.false)) c.self.invariant.notes,
        ),
      ),
    )

pub count-requires-clause-few : goal.count-requires-clause-few
count-requires-clause-few g c =
    rw (ap (λ (o : Judged × Notes). o.0) c.judge-judged.ensures, c.ring_wants-wants.ensures)
    (wanted-few g.row.C c.self.inside.tables c.self.inside.own c.self.inside.mode None c.args.port c.look_at-seen.result c.max-now.result)

pub invariant_of-self : goal.invariant_of-self
invariant_of-self g c =
    let later : c.self.inside.moment ≤ c.max-now.result = omega (arith, c.max-now.ensures) in
    let exits = c.ring_wants-wants.result.exits in
    let few : copies_of c.judge-judged.result.passes ≤ 3 = rw (ap (λ (o : Judged × Notes). o.0) c.judge-judged.ensures, c.ring_wants-wants.ensures)
    (wanted-few g.row.C c.self.inside.tables c.self.inside.own c.self.inside.mode None c.args.port c.look_at-seen.result c.max-now.result) in
    record {
      station = c.self.invariant.station;
      there = ap (λ (o : Judged × Notes). o.1.there) c.judge-judged.ensures ∙ passed-there g.row.C c.self.inside.tables exits c.look_at-seen.result c.max-now.result ∙ c.self.invariant.there;
      notes = rw (ap (λ (o : Judged × Notes). o.1) c.judge-judged.ensures) (AreWithin-passed g.row.C c.self.inside.tables exits c.look_at-seen.result c.self.inside.moment c.max-now.result c.self.inside.accepted later c.self.invariant.notes);
      nodes = rw (ap (λ (h : Bool × Nodes). h.1) c.hear-readable.ensures) (heard_of-last c.self.inside.own c.self.inside.nodes c.args.port c.look_at-seen.result c.max-now.result (omega (arith, c.self.invariant.nodes)));
      steps = omega (arith, c.self.invariant.steps, c.if-self-eq-STEP_LIMIT.false);
      counters = rw c.count.ensures (AreWithin-arrived c.self.inside.counters c.judge-judged.result c.hear-readable.result c.self.inside.accepted few c.self.invariant.counters);
    }

pub returns : goal.returns
returns g c =
    let machine : Machine = record { own = c.self.inside.own; mode = c.self.inside.mode; notes = c.self.inside.tables; nodes = c.self.inside.nodes; next = c.self.inside.next; counters = c.self.inside.counters; moment = c.self.inside.moment; accepted = c.self.inside.accepted } in
    rw (← c.self.view_is, c.count.ensures, c.verdict_of.ensures) (arrive-accepted g.row.C machine c.args.at c.args.port c.args.octets.now
    c.look_at-seen.result c.judge-judged.result c.judge-judged.new.self c.hear-readable.result c.hear-readable.new.nodes c.max-now.result
    (omega (arith, c.self.invariant.steps, c.if-self-eq-STEP_LIMIT.false)) c.look_at-seen.ensures.exact c.max-now.ensures (rw c.ring_wants-wants.ensures at c.judge-judged.ensures) c.hear-readable.ensures)
