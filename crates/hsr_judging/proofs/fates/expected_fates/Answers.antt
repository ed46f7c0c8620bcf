use Rattle.std.proofs.Common.{arith}
use Rattle.hsr_judging.proofs.Fated.{expected_more}
use Rattle.hsr_judging.proofs.fates.expected_fates.Goals as goal

pub loop-i-preserved : goal.loop-i-preserved
loop-i-preserved c =
    expected_more c.args.device.now c.args.last c.args.alone.now c.args.expected.now c.loop-i.i c.index-expected-i.result c.is_left.result c.expected_fate.result
    c.loop-i.fates.items _ _ (omega arith) c.index-expected-i.is c.is_left.ensures c.expected_fate.ensures c.in_ok-push.ensures.items c.loop-i.invariant
