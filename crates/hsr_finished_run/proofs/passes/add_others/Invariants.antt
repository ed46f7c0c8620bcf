use Rattle.std.proofs.Common.{◌≡◌, ◌<◌, ◌+◌, ◌++◌, ℕ, drop, length, max}
use Rattle.hsr_finished_run.specs.Passes.{AreByWorker, others_of, receipts_of}
use Rattle.hsr_finished_run.specs.Workers.{most_kept}
use Rattle.hsr_finished_run.proofs.passes.add_others.Given as goal

abbrev pub invariant-loop-node : goal.invariant-loop-node
invariant-loop-node g l = record {
  workers : AreByWorker 0 l.passes.items;
  main : 0 < length l.passes.items;
  count : max (length l.passes.items) (most_kept (drop l.node l.kept) + 1) ≡ max (length l.fn.passes.items) (most_kept l.kept + 1);
  receipts : (w : ℕ) → receipts_of w l.passes.items ++ others_of w l.node (drop l.node l.kept) ≡ receipts_of w l.fn.passes.items ++ others_of w 0 l.kept;
}
