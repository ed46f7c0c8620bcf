use Rattle.std.proofs.Common.{ℕ, Option, subst}
use Rattle.hsr_run_laws.specs.Run.{Run}
use Rattle.hsr_audit.specs.Sends.{IsServedAt}
use Rattle.hsr_audit.specs.Reaching.{IsCutAt}
use Rattle.hsr_audit.proofs.Placing.{holds_more}
use Rattle.hsr_audit.proofs.cutoff.Reach.cut_in.Goals as goal

pub loop-place-preserved : goal.loop-place-preserved
loop-place-preserved g c =
    let run : Run = c.args.self.now in
    let k : ℕ = c.args.node in
    let n : ℕ = c.loop-place.place in
    let here : IsServedAt run k n = subst (λ (o : Option ℕ). IsCutAt run k n o) c.in_default.is c.in_ok-receiver.ensures.cut in
    (holds_more (IsServedAt run) k n here c.loop-place.invariant.0, c.in_ok-receiver.ensures.found)
