use Rattle.hsr_network_laws.proofs.Delivered.{once_in_network}
use Rattle.hsr_network_laws.proofs.law.once_in_network.Goals as goal

pub returns : goal.returns
returns c = once_in_network
