use Rattle.hsr_finished_run.specs.Checked.{AreKnown}
use Rattle.hsr_finished_run.specs.Finished.{run_of}
use Rattle.hsr_finished_run.proofs.strangers.stranger_of.Given as goal

abbrev pub invariant-loop-i : goal.invariant-loop-i
invariant-loop-i g l = AreKnown (run_of g.row.C l.fn.topology l.fn.numbers l.fn.rows) l.list l.i
