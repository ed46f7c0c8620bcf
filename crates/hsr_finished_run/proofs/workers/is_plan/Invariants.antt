use Rattle.std.proofs.Common.{◌≡◌, ◌↔◌, drop}
use Rattle.hsr_finished_run.specs.Receipts.{done_of}
use Rattle.hsr_finished_run.proofs.workers.is_plan.Given as goal

-- what is left answers for all
abbrev pub invariant-loop-i : goal.invariant-loop-i
invariant-loop-i l = (done_of (drop l.i l.passes) ≡ l.left) ↔ (done_of l.passes ≡ l.fn.plan)
