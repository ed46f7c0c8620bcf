use Rattle.hsr_play_laws.proofs.Ending.{ends_certain}
use Rattle.hsr_play_laws.proofs.law.ends_certain.Goals as goal

pub returns : goal.returns
returns c = ends_certain
