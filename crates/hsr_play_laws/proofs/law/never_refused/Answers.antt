use Rattle.hsr_play_laws.proofs.NotRefused.{accepts_each}
use Rattle.hsr_play_laws.proofs.law.never_refused.Goals as goal

pub returns : goal.returns
returns c = accepts_each
