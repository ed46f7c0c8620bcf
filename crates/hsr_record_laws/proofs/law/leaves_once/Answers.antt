use Rattle.hsr_record_laws.proofs.Leaves.{leaves_once}
use Rattle.hsr_record_laws.proofs.law.leaves_once.Goals as goal

pub returns : goal.returns
returns c = leaves_once
