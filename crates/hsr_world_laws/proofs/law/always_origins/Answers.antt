use Rattle.hsr_world_laws.proofs.Origin as origin
use Rattle.hsr_world_laws.proofs.law.always_origins.Goals as goal

pub returns : goal.returns
returns c = origin.always_origins
