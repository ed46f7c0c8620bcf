use Rattle.std.proofs.Common.{arith}
use Rattle.hsr_judging.proofs.Differing.{those_more}
use Rattle.hsr_judging.proofs.difference.put_those.Goals as goal

pub loop-k-preserved : goal.loop-k-preserved
loop-k-preserved c =
    those_more c.args.all.now c.loop-k.k c.index-all-k.result _ c.loop-k.found.items _ _ (omega arith) c.index-all-k.is c.in_ok-put.ensures c.loop-k.invariant
