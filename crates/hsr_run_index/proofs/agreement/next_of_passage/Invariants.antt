use Rattle.std.proofs.Common.{◌≡◌, length}
use Rattle.hsr_run_index.specs.InOrder.{copies_of_passage}
use Rattle.hsr_run_index.proofs.agreement.next_of_passage.Given as goal

abbrev pub invariant-loop-row : goal.invariant-loop-row
invariant-loop-row l = copies_of_passage l.fn.which l.fn.dir l.left ≡ copies_of_passage l.fn.which l.fn.dir l.fn.rows

abbrev pub decreases-loop-row : goal.decreases-loop-row
decreases-loop-row l = length l.left
