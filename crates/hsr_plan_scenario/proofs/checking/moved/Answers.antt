use Rattle.hsr_plan_scenario.proofs.checking.moved.Goals as goal

pub returns-in-Err-clause-unmoved : goal.returns-in-Err-clause-unmoved
returns-in-Err-clause-unmoved g c = c.trouble_of.ensures g.row.C c.args.plan.now c.in-Err.ensures.err
