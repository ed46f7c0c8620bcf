use Rattle.hsr_plan_hops.specs.Weaving.{IsIdle, left}
use Rattle.hsr_plan_hops.proofs.advancing.does_all.Given as goal

abbrev pub invariant-orders : goal.invariant-orders
invariant-orders g l = IsIdle g.row.C l.transfer l.told l.weaving

abbrev pub decreases-orders : goal.decreases-orders
decreases-orders g l = left l.weaving
