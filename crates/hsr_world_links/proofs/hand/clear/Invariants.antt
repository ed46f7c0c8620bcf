use Rattle.std.proofs.Common.{◌≡◌, drop, map, length}
use Rattle.hsr_world_links.specs.Touching.{at_each}
use Rattle.hsr_world_links.specs.Views.{span_view}
use Rattle.hsr_world_laws.specs.Spans.{emptied, on_lanes}
use Rattle.hsr_world_links.proofs.hand.clear.Given as goal

abbrev pub invariant-loop-link : goal.invariant-loop-link
invariant-loop-link l = record {
  long : length l.spans ≡ length l.fn.spans;
  done : at_each (on_lanes (emptied l.end)) (drop l.link-index l.links) (map span_view l.spans) ≡ at_each (on_lanes (emptied l.end)) l.links (map span_view l.fn.spans);
}
