use Rattle.hsr_audit.specs.Sends.{IsServedAt}
use Rattle.hsr_audit.specs.Placed.{HoldsBelow}
use Rattle.hsr_audit.specs.Shared.{AreFound}
use Rattle.hsr_audit.proofs.cutoff.Reach.cut_in.Given as goal

abbrev pub invariant-loop-place : goal.invariant-loop-place
invariant-loop-place g l = HoldsBelow (IsServedAt l.fn.self) l.fn.node l.place × AreFound l.fn.self l.fn.node l.found
