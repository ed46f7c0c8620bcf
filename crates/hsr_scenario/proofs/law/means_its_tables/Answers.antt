use Rattle.hsr_scenario.proofs.Documents.{means_tables}
use Rattle.hsr_scenario.proofs.law.means_its_tables.Goals as goal

pub returns : goal.returns
returns c = means_tables
