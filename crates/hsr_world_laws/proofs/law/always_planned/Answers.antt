use Rattle.hsr_world_laws.proofs.Plans as plans
use Rattle.hsr_world_laws.proofs.law.always_planned.Goals as goal

pub returns : goal.returns
returns c = plans.always_planned
