use Rattle.std.proofs.Common.{◌≡◌, ◌≤◌, ◌<◌, ℕ, drop, map, length}
use Rattle.hsr_world_links.specs.Giving.{IsReadyAt, given_lane, receipt_of}
use Rattle.hsr_world_links.specs.Touching.{at_each}
use Rattle.hsr_world_links.specs.Views.{span_view}
use Rattle.hsr_world_laws.specs.Spans.{on_lanes}
use Rattle.hsr_world_links.proofs.giving.commit.Given as goal

abbrev pub invariant-loop-link : goal.invariant-loop-link
invariant-loop-link l = record {
  long : length l.spans ≡ length l.fn.spans;
  done :
      at_each (on_lanes (given_lane l.place (receipt_of l.here l.entry))) (drop l.link-index l.links) (map span_view l.spans)
      ≡ at_each (on_lanes (given_lane l.place (receipt_of l.here l.entry))) l.links (map span_view l.fn.spans);
  ready : (j : ℕ) → l.link-index ≤ j → j < length l.links → IsReadyAt l.here.node l.links l.spans j;
}
