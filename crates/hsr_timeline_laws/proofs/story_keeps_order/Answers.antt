use Rattle.hsr_timeline_laws.proofs.Keeping.{story_keeps_order}
use Rattle.hsr_timeline_laws.proofs.story_keeps_order.Goals as goal

pub returns : goal.returns
returns c = story_keeps_order
