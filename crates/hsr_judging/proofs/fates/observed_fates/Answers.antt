use Rattle.std.proofs.Common.{arith}
use Rattle.hsr_judging.proofs.Fated.{observed_more}
use Rattle.hsr_judging.proofs.fates.observed_fates.Goals as goal

pub loop-k-preserved : goal.loop-k-preserved
loop-k-preserved c =
    observed_more c.args.device.now c.args.gots.now c.args.jumps.now c.args.observed.now c.loop-k.k c.index-observed-k.result c.got_at-got.result c.jump_at-jump.result c.observed_fate.result
    c.loop-k.fates.items _ _ (omega arith) c.index-observed-k.is c.got_at-got.ensures c.jump_at-jump.ensures c.observed_fate.ensures c.in_ok-push.ensures.items c.loop-k.invariant
