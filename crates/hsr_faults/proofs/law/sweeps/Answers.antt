use Rattle.hsr_faults.proofs.Serving.{sweeps}
use Rattle.hsr_faults.proofs.law.sweeps.Goals as goal

pub returns : goal.returns
returns c = sweeps
