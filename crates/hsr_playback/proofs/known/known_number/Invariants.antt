use Rattle.std.proofs.Common.{◌≡◌, drop}
use Rattle.std.specs.Prelude.{reverse}
use Rattle.hsr_playback.specs.Known.{known_number}
use Rattle.hsr_playback.proofs.known.known_number.Given as goal

-- what is left answers for all
abbrev pub invariant-loop-j : goal.invariant-loop-j
invariant-loop-j l = known_number (drop l.j (reverse l.given)) l.at l.source l.number ≡ known_number (reverse l.given) l.at l.source l.number
