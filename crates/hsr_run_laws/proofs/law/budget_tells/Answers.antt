use Rattle.hsr_run_laws.proofs.Tells.{budget_tells}
use Rattle.hsr_run_laws.proofs.law.budget_tells.Goals as goal

pub returns : goal.returns
returns c = budget_tells
