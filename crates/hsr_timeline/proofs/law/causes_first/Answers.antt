use Rattle.hsr_timeline.proofs.Circles.{causes_first}
use Rattle.hsr_timeline.proofs.law.causes_first.Goals as goal

pub returns : goal.returns
returns c = causes_first
