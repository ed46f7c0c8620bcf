use Rattle.std.proofs.Common.{◌≡◌, max, drop}
use Rattle.hsr_finished_run.specs.Workers.{most_kept}
use Rattle.hsr_finished_run.proofs.workers.most_kept.Given as goal

abbrev pub invariant-loop-i : goal.invariant-loop-i
invariant-loop-i g l = max l.most (most_kept (drop l.i l.kept)) ≡ most_kept l.kept
