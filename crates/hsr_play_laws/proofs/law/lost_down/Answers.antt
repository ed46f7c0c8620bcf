use Rattle.hsr_play_laws.proofs.Told.{lost_down}
use Rattle.hsr_play_laws.proofs.law.lost_down.Goals as goal

pub returns : goal.returns
returns c = lost_down
