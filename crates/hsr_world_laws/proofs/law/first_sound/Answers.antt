use Rattle.hsr_world_laws.proofs.First as first
use Rattle.hsr_world_laws.proofs.law.first_sound.Goals as goal

pub returns : goal.returns
returns c = first.first_sound
