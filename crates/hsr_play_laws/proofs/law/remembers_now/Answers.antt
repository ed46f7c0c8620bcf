use Rattle.hsr_play_laws.proofs.Remembers.{remembers_now}
use Rattle.hsr_play_laws.proofs.law.remembers_now.Goals as goal

pub returns : goal.returns
returns c = remembers_now
