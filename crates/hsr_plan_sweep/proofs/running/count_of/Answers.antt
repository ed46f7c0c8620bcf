use Rattle.hsr_plan_scenario.proofs.Troubles.{unrun_so}
use Rattle.hsr_plan_sweep.proofs.running.count_of.Goals as goal

pub returns-in-Err-clause-none : goal.returns-in-Err-clause-none
returns-in-Err-clause-none c = λ known. record { why = unrun_so 512 c.args.plan.now c.in-Err.fault known c.in-Err.ensures.unmoved }
