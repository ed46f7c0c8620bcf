use Rattle.hsr_play_laws.proofs.Told.{never_twice}
use Rattle.hsr_play_laws.proofs.law.never_twice.Goals as goal

pub returns : goal.returns
returns c = never_twice
