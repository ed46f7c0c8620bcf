use Rattle.std.proofs.Common.{◌<◌, ◌≡◌, ◌≤◌, ap, arith, subst, true}
use Rattle.hsr_frame.specs.Counters.{step_limit}
use Rattle.hsr_tables.specs.Proxies.{is_known}
use Rattle.hsr_forwarding.specs.Tables.{copies_of}
use Rattle.hsr_forwarding.specs.declared.judged.Judged.{Judged}
use Rattle.hsr_forwarding.proofs.Counts.{AreWithin-arrived}
use Rattle.hsr_redbox.specs.Machine.{Machine}
use Rattle.hsr_redbox.specs.Step.{after_interlink}
use Rattle.hsr_redbox.proofs.Steps.{copies-handled, interlink-fits, interlink-step}
use Rattle.hsr_redbox.proofs.redbox.RedBox.from_interlink.Goals as goal

pub count-requires-clause-few : goal.count-requires-clause-few
count-requires-clause-few g c =
    rw (ap (λ (j : Judged). j.passes) c.new-judged.ensures, c.interlink_handling-handling.ensures)
    (copies-handled c.self.inside.own (is_known c.args.now c.learn.new.stations.heard) c.args.seen.now)

pub leave-requires : goal.leave-requires
leave-requires g c =
    let some : c.self.inside.accepted < step_limit = rw (← c.self.view_is) at c.requires.steps in
    let few : copies_of c.new-judged.result.passes ≤ 3 = rw (ap (λ (j : Judged). j.passes) c.new-judged.ensures, c.interlink_handling-handling.ensures)
    (copies-handled c.self.inside.own (is_known c.args.now c.learn.new.stations.heard) c.args.seen.now) in (
      omega arith,
      (
        omega (arith, some),
        (
          omega arith,
          (
            rw c.interlink_handling-handling.ensures (interlink-fits c.self.inside.own (is_known c.args.now c.learn.new.stations.heard) c.args.seen.now).2,
            rw c.count.ensures (AreWithin-arrived c.self.inside.counters c.new-judged.result true c.self.inside.accepted few c.self.invariant.counters),
          ),
        ),
      ),
    )

pub returns : goal.returns
returns g c =
    let machine : Machine = record { own = c.self.inside.own; mode = c.self.inside.mode; notes = c.self.inside.tables; proxies = c.self.inside.proxies; nodes = c.self.inside.nodes; next = c.self.inside.next; counters = c.self.inside.counters; moment = c.self.inside.moment; accepted = c.self.inside.accepted } in
    subst (λ (m : Machine). (c.verdict_of.result, c.leave.new.self) ≡ after_interlink g.row.C m c.args.now c.args.seen.now) c.self.view_is
    (rw (c.verdict_of.ensures, c.number_of-seq.ensures) (interlink-step g.row.C machine c.args.now c.args.seen.now c.learn.new.stations c.interlink_handling-handling.result c.new-judged.result c.leave.new.self
    c.learn.ensures.heard c.interlink_handling-handling.ensures c.new-judged.ensures (rw c.count.ensures at c.leave.ensures)))
