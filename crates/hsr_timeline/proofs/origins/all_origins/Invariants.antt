use Rattle.std.proofs.Common.{◌≡◌}
use Rattle.hsr_timeline.specs.Fronts.{lists_of}
use Rattle.hsr_timeline.specs.Causes.{origins_below}
use Rattle.hsr_timeline.specs.IndexedCauses.{value_of}
use Rattle.hsr_timeline.proofs.origins.all_origins.Given as goal

abbrev pub invariant-loop-node : goal.invariant-loop-node
invariant-loop-node g l = lists_of l.records.items ≡ origins_below l.closed.run (value_of l.fn.planned) (value_of l.fn.passed) l.node
