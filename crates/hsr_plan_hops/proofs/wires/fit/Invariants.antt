use Rattle.std.proofs.Common.{◌≡◌, drop}
use Rattle.std.specs.Prelude.{fold}
use Rattle.hsr_plan_hops.specs.Wires.{at_first, follows}
use Rattle.hsr_plan_hops.proofs.wires.fit.Given as goal

abbrev pub invariant-loop-hop : goal.invariant-loop-hop
invariant-loop-hop g l = fold (follows l.wire l.closed.run) l.course (drop l.hop-index l.hops) ≡ fold (follows l.wire l.closed.run) at_first l.hops
