use Rattle.hsr_play_laws.proofs.HeardNow.{heard_now}
use Rattle.hsr_play_laws.proofs.law.heard_now.Goals as goal

pub returns : goal.returns
returns c = heard_now
