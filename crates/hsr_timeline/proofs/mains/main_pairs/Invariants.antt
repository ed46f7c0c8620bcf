use Rattle.std.proofs.Common.{◌≡◌, ℕ, count_by, take}
use Rattle.std.specs.List.{range_with_len}
use Rattle.std.specs.Prelude.{filter_map}
use Rattle.hsr_run_index.specs.Turns.{place_at}
use Rattle.hsr_timeline.specs.Causes.{is_for, main_before, main_pair}
use Rattle.hsr_timeline.proofs.mains.main_pairs.Given as goal

abbrev pub invariant-loop-i : goal.invariant-loop-i
invariant-loop-i g l = record {
  counts : (node : ℕ) → place_at l.counts node ≡ count_by (is_for node) (take l.i l.plan);
  before : l.before ≡ main_before l.closed.run l.plan l.i;
  pairs : l.pairs.items ≡ filter_map (main_pair l.closed.run l.plan) (range_with_len 0 l.i);
}
