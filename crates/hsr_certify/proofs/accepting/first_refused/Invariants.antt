use Rattle.std.proofs.Common.{◌≡◌, drop}
use Rattle.hsr_certify.specs.Firsts.{first_step}
use Rattle.hsr_certify.specs.Tests.{is_accepted}
use Rattle.hsr_routes.specs.Routes.{bare}
use Rattle.hsr_send_spans.specs.Down.{AreCutAt}
use Rattle.hsr_certify.proofs.accepting.first_refused.Given as goal

abbrev pub invariant-loop-i : goal.invariant-loop-i
invariant-loop-i l =
    (first_step (is_accepted (bare l.topology.places l.topology.links) l.orders l.spans) l.i (drop l.i l.orders) ≡ first_step (is_accepted (bare l.topology.places l.topology.links) l.orders l.spans) 0 l.orders)
    × AreCutAt l.orders l.cuts.time l.cuts.links
