use Rattle.std.proofs.Common.{ℕ, Option, length, subst}
use Rattle.hsr_run_laws.specs.Run.{Run, record_of}
use Rattle.hsr_audit.specs.Sends.{IsServedAt}
use Rattle.hsr_audit.specs.Placed.{HoldsBelow}
use Rattle.hsr_audit.specs.Reaching.{IsCutIn}
use Rattle.hsr_audit.proofs.Placing.{nodes_more}
use Rattle.hsr_audit.proofs.cutoff.Reach.first_cut.Goals as goal

pub loop-node-preserved : goal.loop-node-preserved
loop-node-preserved g c =
    let run : Run = c.args.self.now in
    let n : ℕ = c.loop-node.node in
    let here : HoldsBelow (IsServedAt run) n (length (record_of run n)) =
    subst (λ (o : Option (ℕ × ℕ)). IsCutIn run n (length (record_of run n)) o) c.in_default.is c.in_ok-place.ensures in
    nodes_more run (IsServedAt run) n here c.loop-node.invariant
