use Rattle.hsr_play_laws.proofs.Told.{never_overruns}
use Rattle.hsr_play_laws.proofs.law.never_overruns.Goals as goal

pub returns : goal.returns
returns c = never_overruns
