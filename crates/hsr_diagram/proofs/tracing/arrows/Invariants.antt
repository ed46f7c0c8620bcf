use Rattle.std.proofs.Common.{◌≡◌, map, take}
use Rattle.hsr_timeline.specs.Fronts.{lists_of}
use Rattle.hsr_timeline.specs.Stamps.{at_spot}
use Rattle.hsr_diagram.specs.Arrows.{arrow_of}
use Rattle.hsr_diagram.proofs.tracing.arrows.Given as goal

abbrev pub invariant-loop-row : goal.invariant-loop-row
invariant-loop-row g l = l.list.items ≡ map (arrow_of l.closed.run (lists_of l.hops) (at_spot (lists_of l.stamps))) (take l.row-index l.rows)
