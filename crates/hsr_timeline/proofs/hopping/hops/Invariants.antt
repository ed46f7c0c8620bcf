use Rattle.std.proofs.Common.{◌≡◌}
use Rattle.hsr_timeline.specs.Hops.{hops_below}
use Rattle.hsr_timeline.proofs.hopping.hops.Given as goal

abbrev pub invariant-loop-link : goal.invariant-loop-link
invariant-loop-link g l = l.hops.items ≡ hops_below l.closed.run l.link
