use Rattle.std.proofs.Common.{◌∙◌, Bool, ap, sym}
use Rattle.hsr_plan_hops.specs.Beginning.{Stage}
use Rattle.hsr_plan_hops.specs.Flights.{is_to_come}
use Rattle.hsr_plan_hops.specs.Weaving.{Woven}
use Rattle.hsr_plan_hops.specs.declared.weaving.Weaving.TheInside.{Inside}
use Rattle.hsr_plan_hops.proofs.Missed.{unmoved_at_last}
use Rattle.hsr_plan_hops.proofs.advancing.lands.Goals as goal

pub returns-then-not-is_to_come-clause-err : goal.returns-then-not-is_to_come-clause-err
returns-then-not-is_to_come-clause-err g c =
    let comes : Stage → Bool = λ s. is_to_come s.moment s.begun c.args.copy.at in
    let seen = ap (λ (i : Inside g.row.C). comes i.stage) c.weaving-inside.view_is ∙ ap (λ (w : Woven). comes w.stage) c.weaving.view_is in
    unmoved_at_last g.row.C c.args.transfer c.args.told.now c.args.weaving.now.orders c.args.weaving.now.stage c.args.copy c.requires.idle.begun.begins c.requires.arriving
    (sym seen ∙ (sym c.is_to_come.ensures ∙ c.if-not-is_to_come.true))
