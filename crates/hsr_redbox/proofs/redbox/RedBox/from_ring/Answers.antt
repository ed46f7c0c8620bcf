use Rattle.std.proofs.Common.{Bool, Some, ◌≡◌, ◌≤◌, ◌<◌, ◌+◌, ◌∙◌, ap, arith, subst}
use Rattle.hsr_frame.specs.Counters.{step_limit}
use Rattle.hsr_tables.specs.Nodes.{Nodes}
use Rattle.hsr_tables.specs.Proxies.{is_known}
use Rattle.hsr_forwarding.specs.Tables.{Notes, copies_of}
use Rattle.hsr_forwarding.specs.declared.judged.Judged.{Judged}
use Rattle.hsr_forwarding.proofs.Arrivals.{heard_of-last}
use Rattle.hsr_forwarding.proofs.Counts.{AreWithin-arrived}
use Rattle.hsr_forwarding.proofs.Keeping.{AreEarlier-within, AreRoomy-within, AreWithin-passed, passed-there}
use Rattle.hsr_forwarding.proofs.Wants.{wanted-among, wanted-few}
use Rattle.hsr_redbox.specs.Machine.{Machine}
use Rattle.hsr_redbox.specs.Step.{after_ring}
use Rattle.hsr_redbox.proofs.Steps.{ring-step}
use Rattle.hsr_redbox.proofs.redbox.RedBox.from_ring.Goals as goal

pub judge-judged-requires : goal.judge-judged-requires
judge-judged-requires g c =
    let later : c.self.inside.moment ≤ c.args.now = rw (← c.self.view_is) at c.requires.later in
    let some : c.self.inside.accepted < step_limit = rw (← c.self.view_is) at c.requires.steps in (
      omega arith,
      (
        rw (c.ring_wants-wants.ensures, c.self.invariant.there) (wanted-among c.self.inside.own c.self.inside.mode (Some (is_known c.args.now c.self.inside.proxies.heard)) c.args.x c.args.seen.now),
        (
          AreEarlier-within c.self.inside.tables c.self.inside.moment c.args.now c.self.inside.accepted later c.self.invariant.notes,
          AreRoomy-within c.self.inside.tables c.self.inside.moment c.self.inside.accepted some c.self.invariant.notes,
        ),
      ),
    )

pub count-requires-clause-few : goal.count-requires-clause-few
count-requires-clause-few g c =
    rw (ap (λ (o : Judged × Notes). o.0) c.judge-judged.ensures, c.ring_wants-wants.ensures)
    (wanted-few g.row.C c.self.inside.tables c.self.inside.own c.self.inside.mode (Some (is_known c.args.now c.self.inside.proxies.heard)) c.args.x c.args.seen.now c.args.now)

pub invariant_of-self : goal.invariant_of-self
invariant_of-self g c =
    let later : c.self.inside.moment ≤ c.args.now = rw (← c.self.view_is) at c.requires.later in
    let exits = c.ring_wants-wants.result.exits in
    let few : copies_of c.judge-judged.result.passes ≤ 3 = rw (ap (λ (o : Judged × Notes). o.0) c.judge-judged.ensures, c.ring_wants-wants.ensures)
    (wanted-few g.row.C c.self.inside.tables c.self.inside.own c.self.inside.mode (Some (is_known c.args.now c.self.inside.proxies.heard)) c.args.x c.args.seen.now c.args.now) in
    record {
      station = c.self.invariant.station;
      there = ap (λ (o : Judged × Notes). o.1.there) c.judge-judged.ensures ∙ passed-there g.row.C c.self.inside.tables exits c.args.seen.now c.args.now ∙ c.self.invariant.there;
      notes = rw (ap (λ (o : Judged × Notes). o.1) c.judge-judged.ensures)
          (AreWithin-passed g.row.C c.self.inside.tables exits c.args.seen.now c.self.inside.moment c.args.now c.self.inside.accepted later c.self.invariant.notes);
      proxies = omega (arith, c.self.invariant.proxies);
      nodes = rw (ap (λ (h : Bool × Nodes). h.1) c.hear-readable.ensures)
          (heard_of-last c.self.inside.own c.self.inside.nodes c.args.x c.args.seen.now c.args.now (omega (arith, c.self.invariant.nodes)));
      steps = let some = rw (← c.self.view_is) at c.requires.steps in omega (arith, some);
      counters = rw c.count.ensures (AreWithin-arrived c.self.inside.counters c.judge-judged.result c.hear-readable.result c.self.inside.accepted few c.self.invariant.counters);
    }

pub returns : goal.returns
returns g c =
    let machine : Machine = record { own = c.self.inside.own; mode = c.self.inside.mode; notes = c.self.inside.tables; proxies = c.self.inside.proxies; nodes = c.self.inside.nodes; next = c.self.inside.next; counters = c.self.inside.counters; moment = c.self.inside.moment; accepted = c.self.inside.accepted } in
    let new : Machine = record machine { notes = c.judge-judged.new.self; nodes = c.hear-readable.new.nodes; counters = c.count.new.counters; moment = c.args.now; accepted = machine.accepted + 1 } in
    subst (λ (m : Machine). (c.verdict_of.result, new) ≡ after_ring g.row.C m c.args.now c.args.x c.args.seen.now) c.self.view_is
    (rw (c.verdict_of.ensures, c.count.ensures) (ring-step g.row.C machine c.args.now c.args.x c.args.seen.now c.judge-judged.result c.judge-judged.new.self c.hear-readable.result c.hear-readable.new.nodes
    (rw c.ring_wants-wants.ensures at c.judge-judged.ensures) c.hear-readable.ensures))
