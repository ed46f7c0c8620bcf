use Rattle.std.proofs.Common.{◌≡◌, ◌≤◌, ◌+◌, ◌++◌, map, vec_capacity, vec_len}
use Rattle.std.specs.Vec.Iter.{into_iter_items, into_iter_len}
use Rattle.hsr_finished_run.specs.Finished.{items_of}
use Rattle.hsr_world_links.specs.Parting.{AreWhole, bare_view, joined}
use Rattle.hsr_world_links.specs.Views.{span_view}
use Rattle.hsr_world_links.proofs.parting.join.Given as goal

-- the links so far, and those that are left, are all
abbrev pub invariant-loop-bare : goal.invariant-loop-bare
invariant-loop-bare l = record {
  left : AreWhole (map items_of (into_iter_items l.of_links)) (map bare_view (into_iter_items l.rest));
  all : map span_view l.spans.items ++ joined (map items_of (into_iter_items l.of_links)) (map bare_view (into_iter_items l.rest)) ≡ joined (map items_of l.fn.rows.items) (map bare_view l.fn.bares.items);
  room : vec_len l.spans + into_iter_len l.rest ≤ vec_capacity l.spans;
}

abbrev pub decreases-loop-bare : goal.decreases-loop-bare
decreases-loop-bare l = into_iter_len l.rest
