use Rattle.hsr_run_laws.proofs.NoStorm.{no_storm}
use Rattle.hsr_run_laws.proofs.law.no_storm.Goals as goal

pub returns : goal.returns
returns c = no_storm
