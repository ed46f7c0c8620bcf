use Rattle.hsr_audit.specs.Sends.{IsNoSendAt}
use Rattle.hsr_audit.specs.Placed.{HoldsIn}
use Rattle.hsr_audit.proofs.sends.has_send.Given as goal

abbrev pub invariant-loop-node : goal.invariant-loop-node
invariant-loop-node g l = HoldsIn l.closed.run (IsNoSendAt l.closed.run) l.node
