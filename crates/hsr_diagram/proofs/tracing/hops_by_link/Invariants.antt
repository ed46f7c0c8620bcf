use Rattle.std.proofs.Common.{◌≡◌}
use Rattle.hsr_timeline.specs.Fronts.{lists_of}
use Rattle.hsr_diagram.specs.Arrows.{hops_by_link}
use Rattle.hsr_diagram.proofs.tracing.hops_by_link.Given as goal

abbrev pub invariant-loop-link : goal.invariant-loop-link
invariant-loop-link g l = lists_of l.links.items ≡ hops_by_link l.closed.run l.link
