use Rattle.std.proofs.Common.{◌≡◌, ◌≤◌, ◌+◌, ℕ, length, max}
use Rattle.hsr_finished_run.specs.Passes.{AreByWorker, receipts_of}
use Rattle.hsr_finished_run.proofs.passes.add_passes.Given as goal

abbrev pub invariant-loop-number : goal.invariant-loop-number
invariant-loop-number l = record {
  count : length l.passes.items ≡ l.number;
  start : length l.fn.passes.items ≤ l.number;
  end : l.number ≤ max (length l.fn.passes.items) (l.fn.worker + 1);
  workers : AreByWorker 0 l.passes.items;
  receipts : (w : ℕ) → receipts_of w l.passes.items ≡ receipts_of w l.fn.passes.items;
}
