use Rattle.hsr_run_laws.proofs.InBudget.{budget_keeps}
use Rattle.hsr_run_laws.proofs.law.budget_keeps.Goals as goal

pub returns : goal.returns
returns c = budget_keeps
