use Rattle.std.proofs.Common.{◌≡◌, ◌++◌, drop}
use Rattle.hsr_run_index.specs.InOrder.{copies_of_passage}
use Rattle.hsr_run_index.proofs.agreement.copies_of_passage.Given as goal

abbrev pub invariant-loop-i : goal.invariant-loop-i
invariant-loop-i l = l.copies.items ++ copies_of_passage l.fn.which l.fn.dir (drop l.i l.rows) ≡ copies_of_passage l.fn.which l.fn.dir l.rows
