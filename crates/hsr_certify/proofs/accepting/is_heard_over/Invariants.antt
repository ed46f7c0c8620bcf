use Rattle.std.proofs.Common.{◌≡◌, length}
use Rattle.std.specs.List.{list_any}
use Rattle.hsr_certify.specs.Tests.{channel_to, is_heard_by}
use Rattle.hsr_routes.specs.Routes.{bare}
use Rattle.hsr_send_spans.specs.Down.{AreCutAt}
use Rattle.hsr_certify.proofs.accepting.is_heard_over.Given as goal

-- what is left answers for all
abbrev pub invariant-loop-newest : goal.invariant-loop-newest
invariant-loop-newest l =
    (list_any (is_heard_by (bare l.topology.places l.topology.links) l.orders l.index l.mac (channel_to l.at)) l.left ≡ list_any (is_heard_by (bare l.topology.places l.topology.links) l.orders l.index l.mac (channel_to l.at)) l.spans)
    × AreCutAt l.orders l.cuts.time l.cuts.links

abbrev pub decreases-loop-newest : goal.decreases-loop-newest
decreases-loop-newest l = length l.left
