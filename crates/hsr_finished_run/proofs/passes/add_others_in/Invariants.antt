use Rattle.std.proofs.Common.{◌≡◌, ◌<◌, ◌+◌, ◌++◌, ℕ, drop, length, max}
use Rattle.hsr_finished_run.specs.Passes.{AreByWorker, others_in, receipts_of}
use Rattle.hsr_finished_run.specs.Workers.{most_in}
use Rattle.hsr_finished_run.proofs.passes.add_others_in.Given as goal

abbrev pub invariant-loop-place : goal.invariant-loop-place
invariant-loop-place l = record {
  workers : AreByWorker 0 l.passes.items;
  main : 0 < length l.passes.items;
  count : max (length l.passes.items) (most_in (drop l.place l.entries) + 1) ≡ max (length l.fn.passes.items) (most_in l.entries + 1);
  receipts : (w : ℕ) → receipts_of w l.passes.items ++ others_in w l.fn.node l.place (drop l.place l.entries) ≡ receipts_of w l.fn.passes.items ++ others_in w l.fn.node 0 l.entries;
}
