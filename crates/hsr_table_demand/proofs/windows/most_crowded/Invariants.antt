use Rattle.std.proofs.Common.{◌≤◌}
use Rattle.hsr_table_demand.specs.Windows.{IsMostBelow}
use Rattle.hsr_table_demand.proofs.windows.most_crowded.Given as goal

abbrev pub invariant-loop-start : goal.invariant-loop-start
invariant-loop-start l = record { most : IsMostBelow l.moments l.start-index l.most; room : l.most ≤ l.room }
