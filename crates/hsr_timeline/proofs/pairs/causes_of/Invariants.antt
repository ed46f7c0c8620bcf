use Rattle.std.proofs.Common.{◌≡◌, take}
use Rattle.hsr_timeline.specs.declared.origin.Spot.{Spot}
use Rattle.hsr_timeline.specs.Causes.{cause_in}
use Rattle.hsr_timeline.specs.IndexedCauses.{value_of}
use Rattle.hsr_timeline.proofs.pairs.causes_of.Given as goal

abbrev pub invariant-loop-i : goal.invariant-loop-i
invariant-loop-i l = (spot : Spot) → value_of l.causes spot ≡ cause_in (take l.i l.pairs) spot
