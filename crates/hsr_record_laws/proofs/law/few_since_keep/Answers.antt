use Rattle.hsr_record_laws.proofs.Few.{few_since_keep}
use Rattle.hsr_record_laws.proofs.law.few_since_keep.Goals as goal

pub returns : goal.returns
returns c = few_since_keep
