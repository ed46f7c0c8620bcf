use Rattle.std.proofs.Common.{◌≡◌}
use Rattle.hsr_node.specs.declared.event.Carried.{Carried}
use Rattle.hsr_timeline.specs.IndexedCopies.{indices_in}
use Rattle.hsr_timeline.specs.Partners.{indices_below}
use Rattle.hsr_timeline.proofs.partners.indices_by_copy.Given as goal

abbrev pub invariant-loop-i : goal.invariant-loop-i
invariant-loop-i l = (other : Carried) → indices_in l.kept other ≡ indices_below other l.copies l.i
