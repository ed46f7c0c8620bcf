use Rattle.hsr_tables.proofs.NodeLaws.{rows_of_latest}
use Rattle.hsr_tables.proofs.nodes.known_nodes.Goals as goal

pub returns : goal.returns
returns c = rows_of_latest
