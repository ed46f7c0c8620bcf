use Rattle.std.proofs.Common.{◌≡◌, ℕ, ◌<◌, get_or}
use Rattle.hsr_node.specs.declared.event.Carried.{Carried}
use Rattle.hsr_run_index.specs.Often.{count_of}
use Rattle.hsr_run_index.proofs.counts.are_alike.Given as goal

-- each copy so far is as often in both
abbrev pub invariant-loop-i : goal.invariant-loop-i
invariant-loop-i l = (k : ℕ) (d : Carried) → k < l.i → count_of l.counts (get_or l.copies k d) ≡ count_of l.others (get_or l.copies k d)
