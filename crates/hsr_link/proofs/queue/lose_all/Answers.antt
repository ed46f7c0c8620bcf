use Rattle.std.proofs.Common.{sym, ◌∙◌}
use Rattle.hsr_link.proofs.Lost.{fewer_wait, lost_all, lost_turned, none_left}
use Rattle.hsr_link.proofs.queue.lose_all.Goals as goal

pub loop-lost-smaller : goal.loop-lost-smaller
loop-lost-smaller c =
    let some = sym c.turn_first.ensures.copy ∙ c.in-Some.is in
    rw (c.turn_first.ensures.queue, c.turn_first.ensures.rows, c.loop-lost.invariant.holds) (fewer_wait c.args.dir c.loop-lost.rows _ some)

pub loop-lost-preserved : goal.loop-lost-preserved
loop-lost-preserved c = record {
  holds = rw (c.turn_first.ensures.queue, c.loop-lost.invariant.holds);
  rest = rw c.turn_first.ensures.rows (lost_turned c.args.dir c.loop-lost.rows ∙ c.loop-lost.invariant.rest);
}

pub returns-clause-rows : goal.returns-clause-rows
returns-clause-rows c =
    let none = sym c.turn_first.ensures.copy ∙ c.in_default.is in
    c.turn_first.ensures.rows ∙ (lost_all c.args.dir c.loop-lost.rows none ∙ c.loop-lost.invariant.rest)

pub returns-clause-queue : goal.returns-clause-queue
returns-clause-queue c =
    let none = sym c.turn_first.ensures.copy ∙ c.in_default.is in
    rw (c.turn_first.ensures.queue, c.turn_first.ensures.rows, none_left c.args.dir c.loop-lost.rows none, c.loop-lost.invariant.holds)
