use Rattle.std.proofs.Common.{None, arith}
use Rattle.hsr_judging.proofs.Numbered.{jumps_more}
use Rattle.hsr_judging.proofs.numbers.jumps_told.Goals as goal

pub loop-k-preserved : goal.loop-k-preserved
loop-k-preserved c =
    jumps_more c.args.expected.now c.args.gots.now c.loop-k.k None c.cause_of-cause.result c.loop-k.left.items c.take_told-jump.new.left.items c.take_told-jump.result c.loop-k.told.items _ _
    (omega arith) c.cause_of-cause.ensures c.take_told-jump.ensures c.in_ok-push.ensures.items c.loop-k.invariant
