use Rattle.std.proofs.Common.{ap, arith}
use Rattle.hsr_node.specs.Kept.{Receipts}
use Rattle.hsr_finished_run.proofs.Idle.{below_passed}
use Rattle.hsr_finished_run.proofs.reached.follow_passes.Goals as goal

pub follow_pass-requires : goal.follow_pass-requires
follow_pass-requires g c =
    let low = below_passed c.args.passes.now c.loop-i.i c.index-passes-i.result c.loop-i-test.true in
    let is = ap (λ (p : Receipts). p.worker) c.index-passes-i.is in
    let most = c.requires in
    let count = c.loop-i.invariant.count in
    (omega arith, omega (arith, low, is, most, count))
