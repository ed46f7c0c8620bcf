use Rattle.hsr_play_laws.proofs.Ending.{ends_well}
use Rattle.hsr_play_laws.proofs.law.ends_well.Goals as goal

pub returns : goal.returns
returns c = ends_well
