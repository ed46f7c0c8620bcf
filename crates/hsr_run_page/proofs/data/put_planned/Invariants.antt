use Rattle.std.proofs.Common.{◌≡◌, ◌≤◌, ◌+◌, ◌++◌, length}
use Rattle.hsr_run_page.specs.Data.{planned_from}
use Rattle.hsr_run_page.proofs.data.put_planned.Given as goal

abbrev pub invariant-loop-at : goal.invariant-loop-at
invariant-loop-at g l = (l.text.items ++ planned_from l.fn.closed.run l.fn.sends l.fn.span l.number l.left ≡ l.initial.text.items ++ planned_from l.fn.closed.run l.fn.sends l.fn.span 0 l.fn.entries)
    × (l.number + length l.left ≤ length l.fn.entries)

abbrev pub decreases-loop-at : goal.decreases-loop-at
decreases-loop-at g l = length l.left
