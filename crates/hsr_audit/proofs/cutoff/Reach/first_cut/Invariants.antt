use Rattle.hsr_audit.specs.Sends.{IsServedAt}
use Rattle.hsr_audit.specs.Placed.{HoldsIn}
use Rattle.hsr_audit.proofs.cutoff.Reach.first_cut.Given as goal

abbrev pub invariant-loop-node : goal.invariant-loop-node
invariant-loop-node g l = HoldsIn l.fn.self (IsServedAt l.fn.self) l.node
