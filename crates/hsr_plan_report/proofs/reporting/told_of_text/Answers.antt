use Rattle.std.proofs.Common.{◌≡◌, Ok, ap, refl, subst}
use Rattle.hsr_plan_sweep.specs.Variants.{plan_in}
use Rattle.hsr_plan_sweep.specs.declared.asked.Asked.{Asked}
use Rattle.hsr_plan_report.proofs.Whole.{unreported_so}
use Rattle.hsr_plan_report.proofs.reporting.told_of_text.Goals as goal

pub returns-in-Ok-clause-none : goal.returns-in-Ok-clause-none
returns-in-Ok-clause-none g c =
    let own = ap (λ (a : Asked). a.without_events) c.asked_with.ensures in
    let is = subst (λ b. plan_in b c.args.text.now ≡ Ok c.in-Ok.plan) own c.in-Ok.ensures.plan in
    unreported_so c.told_of_plan.result c.args.text.now c.args.text.now c.in-Ok.plan c.args.asked is refl c.told_of_plan.ensures.none
