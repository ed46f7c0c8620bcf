use Rattle.hsr_plan_laws.proofs.Ring.{usual_differ}
use Rattle.hsr_plan_laws.proofs.law.usual_addresses_differ.Goals as goal

pub returns : goal.returns
returns c = usual_differ
