use Rattle.hsr_run_laws.proofs.WithoutBoxes.{once_in_budget}
use Rattle.hsr_run_laws.proofs.law.once_in_budget.Goals as goal

pub returns : goal.returns
returns c = once_in_budget
