use Rattle.std.proofs.Common.{◌≡◌, ◌++◌, drop, map}
use Rattle.hsr_run_index.specs.InOrder.{came_by}
use Rattle.hsr_timeline.proofs.copies.came.Given as goal

abbrev pub invariant-loop-at : goal.invariant-loop-at
invariant-loop-at l = l.copies.items ++ map (came_by l.fn.port) (drop l.at l.entries) ≡ map (came_by l.fn.port) l.entries
