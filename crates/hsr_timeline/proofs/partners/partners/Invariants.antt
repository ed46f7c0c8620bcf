use Rattle.std.proofs.Common.{◌≡◌, count_by, map, take}
use Rattle.std.specs.List.{range_with_len}
use Rattle.hsr_node.specs.declared.event.Carried.{Carried}
use Rattle.hsr_run_index.specs.InOrder.{copy_of_passage}
use Rattle.hsr_run_index.specs.Often.{count_of}
use Rattle.hsr_timeline.specs.Partners.{is_at, partner}
use Rattle.hsr_timeline.proofs.partners.partners.Given as goal

abbrev pub invariant-loop-j : goal.invariant-loop-j
invariant-loop-j l = record {
  counts : (copy : Carried) → count_of l.counts copy ≡ count_by (is_at copy) (take l.j (map (copy_of_passage l.fn.which l.fn.dir) l.rows));
  indices : l.indices.items ≡ map (partner l.copies (map (copy_of_passage l.fn.which l.fn.dir) l.rows)) (range_with_len 0 l.j);
}
