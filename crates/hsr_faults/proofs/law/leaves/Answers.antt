use Rattle.hsr_faults.proofs.Leaving.{leaves}
use Rattle.hsr_faults.proofs.law.leaves.Goals as goal

pub returns : goal.returns
returns c = leaves
