use Rattle.hsr_topology.proofs.Back.{lead_back}
use Rattle.hsr_topology.proofs.topology.Topology.link_at.Goals as goal

pub returns-clause-back : goal.returns-clause-back
returns-clause-back c = rw (← c.self.view_is) (lead_back _ _ c.self.invariant)
