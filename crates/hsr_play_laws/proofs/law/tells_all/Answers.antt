use Rattle.hsr_play_laws.proofs.Told.{tells_all}
use Rattle.hsr_play_laws.proofs.law.tells_all.Goals as goal

pub returns : goal.returns
returns c = tells_all
