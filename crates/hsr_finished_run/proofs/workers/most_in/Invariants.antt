use Rattle.std.proofs.Common.{◌≡◌, max, drop}
use Rattle.hsr_finished_run.specs.Workers.{most_in}
use Rattle.hsr_finished_run.proofs.workers.most_in.Given as goal

abbrev pub invariant-loop-i : goal.invariant-loop-i
invariant-loop-i l = max l.most (most_in (drop l.i l.entries)) ≡ most_in l.entries
