use Rattle.std.proofs.Common.{◌≡◌, ◌≤◌, ◌+◌, ◌++◌, map, vec_capacity, vec_len}
use Rattle.std.specs.Vec.Iter.{into_iter_items, into_iter_len}
use Rattle.hsr_finished_run.specs.Finished.{items_of}
use Rattle.hsr_world_links.specs.Parting.{bare_of, bare_view, rows_in}
use Rattle.hsr_world_links.specs.Views.{span_view}
use Rattle.hsr_world_links.proofs.parting.part_into.Given as goal

-- what was moved, and what is left, are the parts of all
abbrev pub invariant-loop-span : goal.invariant-loop-span
invariant-loop-span l = record {
  rows : map items_of l.rows.items ++ map rows_in (map span_view (into_iter_items l.rest)) ≡ map rows_in (map span_view l.fn.spans.items);
  bares : map bare_view l.bares.items ++ map bare_of (map span_view (into_iter_items l.rest)) ≡ map bare_of (map span_view l.fn.spans.items);
  rows_moved : vec_len l.rows + into_iter_len l.rest ≡ vec_len l.fn.spans;
  bares_moved : vec_len l.bares + into_iter_len l.rest ≡ vec_len l.fn.spans;
  rows_room : vec_len l.fn.spans ≤ vec_capacity l.rows;
  bares_room : vec_len l.fn.spans ≤ vec_capacity l.bares;
}

abbrev pub decreases-loop-span : goal.decreases-loop-span
decreases-loop-span l = into_iter_len l.rest
