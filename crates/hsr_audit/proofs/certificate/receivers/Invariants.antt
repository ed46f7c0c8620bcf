use Rattle.std.proofs.Common.{◌≡◌}
use Rattle.hsr_audit.specs.Listed.{receivers_below}
use Rattle.hsr_audit.proofs.certificate.receivers.Given as goal

abbrev pub invariant-loop-node : goal.invariant-loop-node
invariant-loop-node l = l.nodes.items ≡ receivers_below l.macs l.fn.sender l.fn.dst l.node
