use Rattle.std.proofs.Common.{arith}
use Rattle.hsr_playback.proofs.Copied.{copies_more}
use Rattle.hsr_playback.proofs.expected.put_by.Goals as goal

pub loop-end-preserved : goal.loop-end-preserved
loop-end-preserved c =
    copies_more c.args.taps.now c.args.place.now c.args.source.now c.args.event.now c.args.outcome.now c.args.ends.now c.loop-end.end-index _ c.loop-end.expected.items _ _
    (omega arith) c.in_ok-put_copy.ensures c.loop-end.invariant
