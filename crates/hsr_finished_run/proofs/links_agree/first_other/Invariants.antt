use Rattle.hsr_finished_run.specs.Checked.{AllAgree}
use Rattle.hsr_finished_run.specs.Finished.{run_of}
use Rattle.hsr_finished_run.proofs.links_agree.first_other.Given as goal

abbrev pub invariant-loop-link : goal.invariant-loop-link
invariant-loop-link g l = AllAgree l.fn.which (run_of g.row.C l.fn.topology l.fn.kept l.fn.rows) l.link
