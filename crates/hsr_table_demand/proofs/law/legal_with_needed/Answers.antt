use Rattle.hsr_table_demand.proofs.Larger.{legal_with_needed}
use Rattle.hsr_table_demand.proofs.law.legal_with_needed.Goals as goal

pub returns : goal.returns
returns c = legal_with_needed
