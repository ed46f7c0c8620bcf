use Rattle.std.proofs.Common.{◌≡◌, ◌++◌, drop}
use Rattle.hsr_playback.specs.Taken.{before, jumps_from}
use Rattle.hsr_playback.proofs.taken.jumps_of.Given as goal

-- what stands there and what is left are the answer
abbrev pub invariant-loop-seen : goal.invariant-loop-seen
invariant-loop-seen l =
    l.jumps.items ++ jumps_from l.last (drop l.seen-index l.taken) ≡ jumps_from (record { number = before l.fn.start; life = before l.fn.life_start }) l.taken
