use Rattle.std.proofs.Common.{◌≡◌}
use Rattle.hsr_audit.specs.Certificate.{certified_below}
use Rattle.hsr_audit.proofs.ring.list_sends.Given as goal

abbrev pub invariant-loop-node : goal.invariant-loop-node
invariant-loop-node g l = l.sends.items ≡ certified_below l.closed.run l.macs l.node
