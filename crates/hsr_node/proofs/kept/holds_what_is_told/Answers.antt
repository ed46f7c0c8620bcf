use Rattle.hsr_node.proofs.Holding.{holds_what_is_told}
use Rattle.hsr_node.proofs.kept.holds_what_is_told.Goals as goal

pub returns : goal.returns
returns g c = holds_what_is_told g.row.C
