use Rattle.hsr_play_laws.proofs.MovesFew.{moves_are_few}
use Rattle.hsr_play_laws.proofs.law.moves_are_few.Goals as goal

pub returns : goal.returns
returns c = moves_are_few
