use Rattle.std.proofs.Common.{◌≡◌, ◌<◌, ℕ}
use Rattle.hsr_timeline.specs.Fronts.{length_at, lists_of}
use Rattle.hsr_timeline.proofs.timing.are_all_known.Given as goal

abbrev pub invariant-loop-node : goal.invariant-loop-node
invariant-loop-node l = (k : ℕ) → k < l.node → length_at (lists_of l.stamps) k ≡ length_at (lists_of l.records) k
