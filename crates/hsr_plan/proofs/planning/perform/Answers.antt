use Rattle.hsr_plan.proofs.planning.perform.Goals as goal

pub returns-in-Run : goal.returns-in-Run
returns-in-Run g c = rw c.in-Run.is c.ran.ensures
