use Rattle.hsr_finished_run.specs.Checked.{HasNoStranger}
use Rattle.hsr_finished_run.specs.Finished.{run_of}
use Rattle.hsr_finished_run.proofs.strangers.first_stranger.Given as goal

abbrev pub invariant-loop-link : goal.invariant-loop-link
invariant-loop-link g l = HasNoStranger (run_of g.row.C l.fn.topology l.fn.numbers l.fn.rows) l.link
