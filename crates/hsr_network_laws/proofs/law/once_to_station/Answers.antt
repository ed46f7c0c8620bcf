use Rattle.hsr_network_laws.proofs.Stations.{once_to_station}
use Rattle.hsr_network_laws.proofs.law.once_to_station.Goals as goal

pub returns : goal.returns
returns c = once_to_station
