use Rattle.hsr_play_laws.proofs.GoesOn.{goes_on}
use Rattle.hsr_play_laws.proofs.law.goes_on.Goals as goal

pub returns : goal.returns
returns c = goes_on
