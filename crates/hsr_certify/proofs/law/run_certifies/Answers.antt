use Rattle.hsr_certify.proofs.RunCertifies.{run_certifies}
use Rattle.hsr_certify.proofs.law.run_certifies.Goals as goal

pub returns : goal.returns
returns c = run_certifies
