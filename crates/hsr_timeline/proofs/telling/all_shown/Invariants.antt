use Rattle.std.proofs.Common.{take}
use Rattle.hsr_timeline.specs.Fronts.{lists_of}
use Rattle.hsr_timeline.specs.Stamps.{at_spot}
use Rattle.hsr_timeline.specs.Story.{AreShown}
use Rattle.hsr_timeline.proofs.telling.all_shown.Given as goal

abbrev pub invariant-loop-i : goal.invariant-loop-i
invariant-loop-i l = AreShown (at_spot (lists_of l.stamps)) (take l.i l.hops) l.rows.items
