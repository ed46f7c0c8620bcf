use Rattle.std.proofs.Common.{ap, sym}
use Rattle.hsr_plan_hops.specs.Beginning.{Stage}
use Rattle.hsr_plan_hops.proofs.Told.{at_pace_at}
use Rattle.hsr_plan_hops.proofs.moving.ordered.Goals as goal

pub returns-clause-ok : goal.returns-clause-ok
returns-clause-ok g c =
    at_pace_at g.row.C c.args.transfer c.args.told.now c.in_ok-stage.field-0 c.stage.inside.stage c.stage.inside.orders.items c.stage-2.inside.world c.stage.view_is
    (sym (ap (λ (s : Stage). s.world) c.stage-2.view_is)) c.in_ok-stage.ensures.ok c.in_ok-check_end.ensures.ok
