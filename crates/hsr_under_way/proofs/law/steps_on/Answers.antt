use Rattle.hsr_under_way.proofs.StepsOn.{steps_on}
use Rattle.hsr_under_way.proofs.law.steps_on.Goals as goal

pub returns : goal.returns
returns c = steps_on
