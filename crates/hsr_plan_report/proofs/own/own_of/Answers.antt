use Rattle.hsr_plan_scenario.proofs.Troubles.{unrun_so}
use Rattle.hsr_plan_report.proofs.own.own_of.Goals as goal

pub returns-in-Err-clause-none : goal.returns-in-Err-clause-none
returns-in-Err-clause-none c = λ told. unrun_so 512 c.args.plan.now c.in-Err.trouble (c.line_of.ensures told) c.in-Err.ensures.unmoved
