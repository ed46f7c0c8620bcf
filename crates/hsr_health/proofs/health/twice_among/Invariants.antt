use Rattle.std.proofs.Common.{◌≡◌, take}
use Rattle.hsr_health.specs.Whole.{twice_among}
use Rattle.hsr_health.proofs.health.twice_among.Given as goal

-- the sum so far
abbrev pub invariant-loop-own : goal.invariant-loop-own
invariant-loop-own l = l.sum ≡ twice_among (take l.own-index l.counts)
