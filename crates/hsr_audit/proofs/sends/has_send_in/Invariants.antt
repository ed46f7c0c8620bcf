use Rattle.hsr_audit.specs.Sends.{IsNoSendAt}
use Rattle.hsr_audit.specs.Placed.{HoldsBelow}
use Rattle.hsr_audit.proofs.sends.has_send_in.Given as goal

abbrev pub invariant-loop-place : goal.invariant-loop-place
invariant-loop-place g l = HoldsBelow (IsNoSendAt l.closed.run) l.fn.node l.place
