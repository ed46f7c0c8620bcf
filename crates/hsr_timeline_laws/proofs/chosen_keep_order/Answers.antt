use Rattle.hsr_timeline_laws.proofs.Keeping.{chosen_keep_order}
use Rattle.hsr_timeline_laws.proofs.chosen_keep_order.Goals as goal

pub returns : goal.returns
returns c = chosen_keep_order
