use Rattle.std.proofs.Common.{arith}
use Rattle.hsr_expected.proofs.Macs.{macs_more}
use Rattle.hsr_expected.proofs.expected.macs_of.Goals as goal

pub loop-i-preserved : goal.loop-i-preserved
loop-i-preserved c =
    macs_more c.args.nodes.now c.loop-i.i c.index-nodes-i.result c.loop-i.macs.items _ _ (omega arith) c.index-nodes-i.is c.in_ok-put_node.ensures c.loop-i.invariant
