use Rattle.hsr_judging_text.proofs.Told.{told_in_order, told_once}
use Rattle.hsr_judging_text.proofs.deviation.deviations_of.Goals as goal

pub returns-clause-order : goal.returns-clause-order
returns-clause-order c =
    told_in_order c.args.judgement.now _ _ _ c.in_ok-deviations.ensures
    c.sort_by_packet.ensures.same c.in_ok-sort_by_packet.ensures.sorted c.sort_by_packet.ensures.stable
    c.sort_by_moment.ensures.same c.in_ok-sort_by_moment.ensures.sorted c.sort_by_moment.ensures.stable

pub returns-clause-once : goal.returns-clause-once
returns-clause-once c = told_once c.args.judgement.now _ (returns-clause-order c).same
