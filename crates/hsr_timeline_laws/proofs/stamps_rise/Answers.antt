use Rattle.hsr_timeline_laws.proofs.Following.{stamps_rise}
use Rattle.hsr_timeline_laws.proofs.stamps_rise.Goals as goal

pub returns : goal.returns
returns c = stamps_rise
