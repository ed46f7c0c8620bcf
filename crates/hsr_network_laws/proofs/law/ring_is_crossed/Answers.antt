use Rattle.hsr_network_laws.proofs.Rings.{ring_is_crossed}
use Rattle.hsr_network_laws.proofs.law.ring_is_crossed.Goals as goal

pub returns : goal.returns
returns c = ring_is_crossed
