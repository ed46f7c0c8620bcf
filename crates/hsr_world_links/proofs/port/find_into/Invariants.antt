use Rattle.std.proofs.Common.{◌≡◌, drop, map}
use Rattle.hsr_world_links.specs.Ports.{spot_to}
use Rattle.hsr_world_links.specs.Views.{span_view}
use Rattle.hsr_world_links.proofs.port.find_into.Given as goal

abbrev pub invariant-loop-link : goal.invariant-loop-link
invariant-loop-link l = spot_to l.end l.link (map span_view (drop l.link l.spans)) ≡ spot_to l.end 0 (map span_view l.spans)
