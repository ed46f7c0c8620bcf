use Rattle.std.proofs.Common.{◌≡◌, length}
use Rattle.std.specs.List.{AllByRecursion}
use Rattle.hsr_finished_run.specs.Reached.{IsStart}
use Rattle.hsr_finished_run.proofs.reached.first_reached.Given as goal

abbrev pub invariant-loop-worker : goal.invariant-loop-worker
invariant-loop-worker l = record {
  count : length l.all.items ≡ l.worker;
  start : AllByRecursion IsStart l.all.items;
}
