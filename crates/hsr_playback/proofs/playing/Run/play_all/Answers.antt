use Rattle.std.proofs.Common.{arith}
use Rattle.hsr_playback.proofs.Plays.{played_more}
use Rattle.hsr_playback.proofs.playing.Run.play_all.Goals as goal

pub loop-i-preserved : goal.loop-i-preserved
loop-i-preserved g c =
    played_more g.row.C c.args.taps.now c.args.own.now c.args.begins.now c.args.taken.now c.loop-i.self _ _ c.args.passages.now c.loop-i.i c.index-passages-i.result _ _
    (omega arith) c.index-passages-i.is c.begins_at-begun.ensures c.taken_at-took.ensures c.in_ok-play_one.ensures c.loop-i.invariant
