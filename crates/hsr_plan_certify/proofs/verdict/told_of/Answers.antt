use Rattle.hsr_table_size.specs.Sizes.{capacity_of}
use Rattle.hsr_plan_scenario.proofs.Troubles.{unmoved_why}
use Rattle.hsr_plan_certify.proofs.verdict.told_of.Goals as goal

pub returns-in-Err-clause-none : goal.returns-in-Err-clause-none
returns-in-Err-clause-none c = λ told. unmoved_why (capacity_of c.args.table) c.args.plan.now c.in-Err.trouble (c.line_of.ensures told) c.in-Err.ensures.unmoved
