use Rattle.hsr_table_demand.specs.Windows.{IsMostBelow}
use Rattle.hsr_table_demand.proofs.windows.most_of.Given as goal

abbrev pub invariant-loop-start : goal.invariant-loop-start
invariant-loop-start l = IsMostBelow l.moments l.start-index l.most
