use Rattle.hsr_deliveries.proofs.Completing.{once_is_complete}
use Rattle.hsr_deliveries.proofs.law.once_is_complete.Goals as goal

pub returns : goal.returns
returns c = once_is_complete
