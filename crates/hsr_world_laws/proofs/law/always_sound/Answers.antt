use Rattle.hsr_world_laws.proofs.Keeps as keeps
use Rattle.hsr_world_laws.proofs.law.always_sound.Goals as goal

pub returns : goal.returns
returns c = keeps.always_sound
