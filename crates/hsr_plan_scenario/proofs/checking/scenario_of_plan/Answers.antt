use Rattle.std.proofs.Common.{refl}
use Rattle.hsr_plan_text.specs.Meaning.{plan_of}
use Rattle.hsr_plan_scenario.proofs.Troubles.{read_so, trouble_so}
use Rattle.hsr_plan_scenario.proofs.checking.scenario_of_plan.Goals as goal

pub returns-in-Ok-clause-trouble : goal.returns-in-Ok-clause-trouble
returns-in-Ok-clause-trouble g c = trouble_so g.row.C (plan_of c.args.text.now) c.in-Ok.plan c.scenario_of_meaning.result c.in-Ok.ensures c.scenario_of_meaning.ensures.trouble

pub returns-in-Err-clause-trouble : goal.returns-in-Err-clause-trouble
returns-in-Err-clause-trouble g c = read_so g.row.C (plan_of c.args.text.now) c.in-Err.fault c.in-Err.fault.what refl c.in-Err.ensures
