use Rattle.hsr_network_laws.proofs.Late.{late_decides}
use Rattle.hsr_network_laws.proofs.law.late_decides.Goals as goal

pub returns : goal.returns
returns c = late_decides
