use Rattle.hsr_plan.proofs.planning.reported.Goals as goal

pub returns : goal.returns
returns g c = rw c.report_asked-asked.ensures at c.report_run.ensures
