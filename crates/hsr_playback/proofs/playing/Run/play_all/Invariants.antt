use Rattle.std.proofs.Common.{◌≡◌, drop}
use Rattle.hsr_playback.specs.Playing.{played_from}
use Rattle.hsr_playback.proofs.playing.Run.play_all.Given as goal

-- what is left is played after what was played so far
abbrev pub invariant-loop-i : goal.invariant-loop-i
invariant-loop-i g l = played_from g.row.C l.taps l.own l.begins l.taken l.self l.i (drop l.i l.passages) ≡ played_from g.row.C l.taps l.own l.begins l.taken l.fn.self 0 l.passages
