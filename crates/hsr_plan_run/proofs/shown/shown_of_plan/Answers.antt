use Rattle.hsr_plan_scenario.proofs.Troubles.{unrun_so}
use Rattle.hsr_plan_run.proofs.shown.shown_of_plan.Goals as goal

pub returns-clause-none : goal.returns-clause-none
returns-clause-none g c = λ told. unrun_so g.row.C c.args.plan.now c.in-Err.trouble (c.line_of.ensures told) c.in-Err.ensures.unmoved
