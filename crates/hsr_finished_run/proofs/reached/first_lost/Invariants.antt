use Rattle.std.proofs.Common.{◌≡◌, ℕ, ◌<◌, true, get_or}
use Rattle.hsr_finished_run.specs.declared.reached.Reached.{Reached}
use Rattle.hsr_finished_run.proofs.reached.first_lost.Given as goal

abbrev pub invariant-loop-worker : goal.invariant-loop-worker
invariant-loop-worker l = (w : ℕ) (d : Reached) → w < l.worker → (get_or l.all w d).is_right ≡ true
