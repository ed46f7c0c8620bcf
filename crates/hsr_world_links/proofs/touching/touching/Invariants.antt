use Rattle.std.proofs.Common.{◌≡◌, ◌++◌, drop, map}
use Rattle.hsr_world_links.specs.Touching.{touching_from}
use Rattle.hsr_world_links.specs.Views.{span_view}
use Rattle.hsr_world_links.proofs.touching.touching.Given as goal

abbrev pub invariant-loop-link : goal.invariant-loop-link
invariant-loop-link l = l.links.items ++ touching_from l.node l.link (map span_view (drop l.link l.spans)) ≡ touching_from l.node 0 (map span_view l.spans)
