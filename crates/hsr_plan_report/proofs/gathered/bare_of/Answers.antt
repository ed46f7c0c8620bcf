use Rattle.std.proofs.Common.{inr, subst}
use Rattle.hsr_plan_sweep.specs.Refusals.{IsUnswept}
use Rattle.hsr_plan_sweep.specs.declared.asked.Asked.{Asked}
use Rattle.hsr_plan_report.proofs.gathered.bare_of.Goals as goal

pub returns-in-Err-sweep_of-clause-none : goal.returns-in-Err-sweep_of-clause-none
returns-in-Err-sweep_of-clause-none g c = λ told. inr (subst (λ (a : Asked). IsUnswept c.args.plan.now a) c.asked_with-asked.ensures (c.in-Err-sweep_of.ensures.none told))
