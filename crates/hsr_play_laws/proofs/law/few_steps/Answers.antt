use Rattle.hsr_play_laws.proofs.FewSteps.{few_steps}
use Rattle.hsr_play_laws.proofs.law.few_steps.Goals as goal

pub returns : goal.returns
returns c = few_steps
