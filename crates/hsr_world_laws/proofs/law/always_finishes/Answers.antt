use Rattle.hsr_world_laws.proofs.Closed as closed
use Rattle.hsr_world_laws.proofs.law.always_finishes.Goals as goal

pub returns : goal.returns
returns c = closed.always_finishes
