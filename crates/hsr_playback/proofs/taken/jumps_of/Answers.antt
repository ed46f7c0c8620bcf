use Rattle.std.proofs.Common.{arith}
use Rattle.hsr_playback.proofs.Jumping.{jumps_more}
use Rattle.hsr_playback.proofs.taken.jumps_of.Goals as goal

pub loop-seen-preserved : goal.loop-seen-preserved
loop-seen-preserved c =
    jumps_more c.loop-seen.last _ c.args.taken.now c.loop-seen.seen-index _ _ c.loop-seen.jumps.items _ _
    (omega arith) c.jump_at.ensures c.last_at-last.ensures c.in_ok-push.ensures.items c.loop-seen.invariant
