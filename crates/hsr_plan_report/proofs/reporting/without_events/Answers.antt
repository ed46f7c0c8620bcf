use Rattle.std.proofs.Common.{IfErr, IfOk, IsOk, sym, subst, ap}
use Rattle.hsr_plan_text.specs.Plan.{Plan}
use Rattle.hsr_plan_sweep.specs.declared.asked.Asked.{Asked}
use Rattle.hsr_plan_report.specs.Gathered.{IsBareOf, IsUnreportedBare}
use Rattle.hsr_plan_report.proofs.Whole.{bare_so}
use Rattle.hsr_plan_report.proofs.reporting.without_events.Goals as goal

pub returns-in-Ok-clause-bare : goal.returns-in-Ok-clause-bare
returns-in-Ok-clause-bare g c =
    let same = bare_so c.args.text.now c.args.plan.now c.in-Ok.bare c.asked_with.result.without_events (ap (λ (a : Asked). a.without_events) c.asked_with.ensures) c.requires c.in-Ok.ensures.plan in
    subst (λ (p : Plan). IfOk c.bare_of.result (IsBareOf p c.args.asked)) (sym same) c.bare_of.ensures.bare

pub returns-in-Ok-clause-none : goal.returns-in-Ok-clause-none
returns-in-Ok-clause-none g c =
    let same = bare_so c.args.text.now c.args.plan.now c.in-Ok.bare c.asked_with.result.without_events (ap (λ (a : Asked). a.without_events) c.asked_with.ensures) c.requires c.in-Ok.ensures.plan in
    subst (λ (p : Plan). IfErr c.bare_of.result (λ line. IsOk line → IsUnreportedBare p c.args.asked)) (sym same) c.bare_of.ensures.none
