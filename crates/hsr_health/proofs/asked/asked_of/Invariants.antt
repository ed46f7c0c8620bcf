use Rattle.std.proofs.Common.{◌≡◌, map}
use Rattle.std.specs.List.{range_with_len}
use Rattle.hsr_health.specs.Whole.{is_asked}
use Rattle.hsr_health.proofs.asked.asked_of.Given as goal

-- the interfaces so far
abbrev pub invariant-loop-i : goal.invariant-loop-i
invariant-loop-i l = l.asked.items ≡ map (is_asked l.choice) (range_with_len 0 l.i)
