use Rattle.hsr_send_spans.specs.Down.{AreCutAt}
use Rattle.hsr_certify.specs.Served.{ServedBelow}
use Rattle.hsr_routes.specs.Routes.{bare}
use Rattle.hsr_certify.proofs.serving.first_cut_off.Given as goal

abbrev pub invariant-loop-i : goal.invariant-loop-i
invariant-loop-i l = ServedBelow (bare l.topology.places l.topology.links) l.orders l.spans l.i × AreCutAt l.orders l.cuts.time l.cuts.links
