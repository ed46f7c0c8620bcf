use Rattle.hsr_health.proofs.Marking.{AreLatedTo}
use Rattle.hsr_health.proofs.marks.with_lates.Given as goal

-- it is set of the copies so far
abbrev pub invariant-loop-i : goal.invariant-loop-i
invariant-loop-i l = AreLatedTo l.fn.marks.items l.lates l.i l.all.items
