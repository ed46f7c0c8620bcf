use Rattle.hsr_world_laws.proofs.Closed as closed
use Rattle.hsr_world_laws.proofs.law.only_quiet_closes.Goals as goal

pub returns : goal.returns
returns c = closed.only_quiet_closes
