use Rattle.std.proofs.Common.{◌≡◌, count_by, take}
use Rattle.hsr_node.specs.declared.event.Carried.{Carried}
use Rattle.hsr_run_index.specs.Often.{count_of, is_same_carried}
use Rattle.hsr_run_index.proofs.counts.counted.Given as goal

abbrev pub invariant-loop-i : goal.invariant-loop-i
invariant-loop-i l = (other : Carried) → count_of l.counts other ≡ count_by (is_same_carried other) (take l.i l.copies)
