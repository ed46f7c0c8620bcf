use Rattle.hsr_scenario.proofs.Documents.{first_fault}
use Rattle.hsr_scenario.proofs.law.fault_is_first.Goals as goal

pub returns : goal.returns
returns c = first_fault
