use Rattle.hsr_table_demand.specs.Walked.{IsMostBefore}
use Rattle.hsr_table_demand.proofs.needing.needed.Given as goal

abbrev pub invariant-loop-node : goal.invariant-loop-node
invariant-loop-node g l = IsMostBefore l.closed.run l.node 0 l.needed
