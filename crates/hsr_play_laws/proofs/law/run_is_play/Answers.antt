use Rattle.hsr_play_laws.proofs.RunPlays.{run_is_play}
use Rattle.hsr_play_laws.proofs.law.run_is_play.Goals as goal

pub returns : goal.returns
returns c = run_is_play
