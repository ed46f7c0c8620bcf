use Rattle.std.proofs.Common.{sym}
use Rattle.hsr_plan_hops.proofs.Begun.{left_out_at}
use Rattle.hsr_plan_hops.proofs.weaving.obeys.Goals as goal

pub returns-in-Some-clause-ok : goal.returns-in-Some-clause-ok
returns-in-Some-clause-ok g c =
    left_out_at g.row.C c.args.transfer c.args.told.now c.args.weaving.now c.tries.new.weaving c.weaving.inside.stage c.set_told.new.self c.weaving.inside.orders.items c.args.step.now c.args.more.now
    c.in_ok-tries.field-0 c.in-Some.fault c.requires.begun c.requires.next c.in_ok-tries.ensures.ok c.in-Some.is (sym c.if-is_unknown.ensures) c.weaving.view_is c.set_told.ensures
