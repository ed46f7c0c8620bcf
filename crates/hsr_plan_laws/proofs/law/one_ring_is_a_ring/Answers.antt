use Rattle.hsr_plan_laws.proofs.Ring.{one_ring}
use Rattle.hsr_plan_laws.proofs.law.one_ring_is_a_ring.Goals as goal

pub returns : goal.returns
returns c = one_ring
