use Rattle.hsr_number_laws.proofs.Counted.{counted_tells}
use Rattle.hsr_number_laws.proofs.law.counted_tells.Goals as goal

pub returns : goal.returns
returns c = counted_tells
