use Rattle.std.proofs.Common.{◌-◌, length}
use Rattle.hsr_heard.proofs.Subjects.{AreSoFar}
use Rattle.hsr_heard.proofs.abouts.told_by.Given as goal

-- those whose copies all stand before the index
abbrev pub invariant-loop-from : goal.invariant-loop-from
invariant-loop-from l = AreSoFar l.copies l.start l.end l.from l.told.all.items l.told.silences.items

abbrev pub decreases-loop-from : goal.decreases-loop-from
decreases-loop-from l = length l.copies - l.from
