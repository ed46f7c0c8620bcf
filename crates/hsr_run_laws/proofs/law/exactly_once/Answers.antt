use Rattle.hsr_run_laws.proofs.Once.{exactly_once}
use Rattle.hsr_run_laws.proofs.law.exactly_once.Goals as goal

pub returns : goal.returns
returns c = exactly_once
