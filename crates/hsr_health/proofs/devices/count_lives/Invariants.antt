use Rattle.std.proofs.Common.{take}
use Rattle.hsr_health.proofs.Living.{AreLives}
use Rattle.hsr_health.proofs.devices.count_lives.Given as goal

-- those so far
abbrev pub invariant-loop-i : goal.invariant-loop-i
invariant-loop-i l = AreLives l.of_copy (take l.i l.heard) l.fn.counts.items l.counts.items
