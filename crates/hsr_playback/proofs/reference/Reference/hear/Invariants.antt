use Rattle.std.proofs.Common.{◌≡◌, drop}
use Rattle.hsr_playback.specs.Playing.{heard}
use Rattle.hsr_playback.proofs.reference.Reference.hear.Given as goal

-- the stations that are left are heard after those so far
abbrev pub invariant-loop-station : goal.invariant-loop-station
invariant-loop-station g l = heard g.row.C l.self (drop l.station-index l.stations) ≡ heard g.row.C l.fn.self l.stations
