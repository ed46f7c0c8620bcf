use Rattle.std.proofs.Common.{arith}
use Rattle.hsr_playback.proofs.Begun.{begins_more}
use Rattle.hsr_playback.proofs.own.own_begins.Goals as goal

pub loop-i-preserved : goal.loop-i-preserved
loop-i-preserved c =
    begins_more c.args.own c.args.has_host c.args.within c.args.passages.now c.loop-i.i c.index-passages-i.result c.loop-i.table.items _ _ c.loop-i.begins.items _ _
    (omega arith) c.index-passages-i.is c.begins_behind.ensures c.in_ok-push.ensures.items c.loop-i.invariant
