use Rattle.hsr_network_laws.proofs.Lives.{lives_stay}
use Rattle.hsr_network_laws.proofs.law.lives_stay.Goals as goal

pub returns : goal.returns
returns c = lives_stay
