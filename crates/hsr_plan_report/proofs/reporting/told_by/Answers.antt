use Rattle.std.proofs.Common.{inl, inr, subst}
use Rattle.hsr_plan_sweep.specs.Refusals.{IsUnswept}
use Rattle.hsr_plan_sweep.specs.declared.asked.Asked.{Asked}
use Rattle.hsr_plan_report.proofs.Whole.{bare_unreported}
use Rattle.hsr_plan_report.proofs.reporting.told_by.Goals as goal

pub returns-in-Ok-clause-none : goal.returns-in-Ok-clause-none
returns-in-Ok-clause-none g c = bare_unreported c.told_with.result c.args.plan.now c.args.asked c.told_with.ensures.none

pub returns-in-Err-clause-none : goal.returns-in-Err-clause-none
returns-in-Err-clause-none g c = λ told. inr (inl (subst (λ (a : Asked). IsUnswept c.args.plan.now a) c.asked_with-swept.ensures (c.in-Err.ensures.none told)))
