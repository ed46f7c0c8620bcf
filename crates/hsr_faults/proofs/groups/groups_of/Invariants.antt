use Rattle.hsr_send_spans.specs.Down.{AreCutAt}
use Rattle.hsr_faults.specs.Groups.{AreGrouped}
use Rattle.hsr_faults.proofs.groups.groups_of.Given as goal

abbrev pub invariant-loop-i : goal.invariant-loop-i
invariant-loop-i l = AreGrouped l.orders l.spans l.i l.groups.items l.of.items × AreCutAt l.orders l.cuts.time l.cuts.links
