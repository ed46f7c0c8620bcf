use Rattle.std.proofs.Common.{◌≡◌, drop, map}
use Rattle.hsr_world_laws.specs.Spans.{spot_from}
use Rattle.hsr_world_links.specs.Views.{span_view}
use Rattle.hsr_world_links.proofs.spot.find_spot.Given as goal

abbrev pub invariant-loop-link : goal.invariant-loop-link
invariant-loop-link l = spot_from l.end l.link (map span_view (drop l.link l.spans)) ≡ spot_from l.end 0 (map span_view l.spans)
