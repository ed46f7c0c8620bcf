use Rattle.hsr_finished_run.specs.Reached.{HasUsedUp, IsMarked}
use Rattle.hsr_finished_run.proofs.reached.mark_records.Given as goal

abbrev pub invariant-loop-node : goal.invariant-loop-node
invariant-loop-node g l = IsMarked (λ w next. HasUsedUp l.kept w next l.node) l.fn.all.items l.all.items
