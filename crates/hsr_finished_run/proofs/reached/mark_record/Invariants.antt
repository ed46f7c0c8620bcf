use Rattle.hsr_run_index.specs.Turns.{IsPassed}
use Rattle.hsr_finished_run.specs.Reached.{IsMarked}
use Rattle.hsr_finished_run.proofs.reached.mark_record.Given as goal

abbrev pub invariant-loop-place : goal.invariant-loop-place
invariant-loop-place l = IsMarked (λ w next. IsPassed l.entries w (next l.fn.node) l.place) l.fn.all.items l.all.items
