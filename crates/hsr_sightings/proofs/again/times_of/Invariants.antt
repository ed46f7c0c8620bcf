use Rattle.std.proofs.Common.{◌≡◌, map, min, take}
use Rattle.hsr_sightings.proofs.again.times_of.Given as goal

-- the counts so far
abbrev pub invariant-loop-i : goal.invariant-loop-i
invariant-loop-i l = l.times.items ≡ map (λ n. min n 255) (take l.i l.counts)
