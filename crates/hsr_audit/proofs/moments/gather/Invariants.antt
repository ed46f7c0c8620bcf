use Rattle.std.proofs.Common.{◌≡◌}
use Rattle.hsr_audit.specs.Timed.{sent_moments_below}
use Rattle.hsr_audit.proofs.moments.gather.Given as goal

abbrev pub invariant-loop-node : goal.invariant-loop-node
invariant-loop-node g l = l.sends.items ≡ sent_moments_below l.closed.run l.node
