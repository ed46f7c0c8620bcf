use Rattle.std.proofs.Common.{arith}
use Rattle.hsr_playback.proofs.Heard.{heard_more}
use Rattle.hsr_playback.proofs.reference.Reference.hear.Goals as goal

pub loop-station-preserved : goal.loop-station-preserved
loop-station-preserved g c =
    heard_more g.row.C c.loop-station.self _ _ c.args.stations.now c.loop-station.station-index c.station-item.result _ (omega arith) c.station-item.is c.in_ok-hear_one.ensures
    c.loop-station.invariant
