use Rattle.std.proofs.Common.{◌≡◌, max, drop}
use Rattle.hsr_finished_run.specs.Workers.{most_passed}
use Rattle.hsr_finished_run.proofs.workers.most_passed.Given as goal

abbrev pub invariant-loop-i : goal.invariant-loop-i
invariant-loop-i l = max l.most (most_passed (drop l.i l.passes)) ≡ most_passed l.passes
