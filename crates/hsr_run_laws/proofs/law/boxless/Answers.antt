use Rattle.hsr_run_laws.proofs.WithoutBoxes.{boxless}
use Rattle.hsr_run_laws.proofs.law.boxless.Goals as goal

pub returns : goal.returns
returns c = boxless
