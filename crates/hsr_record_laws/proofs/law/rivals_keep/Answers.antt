use Rattle.hsr_record_laws.proofs.Rivals.{rivals_keep}
use Rattle.hsr_record_laws.proofs.law.rivals_keep.Goals as goal

pub returns : goal.returns
returns c = rivals_keep
