use Rattle.std.proofs.Common.{◌≡◌, map}
use Rattle.std.specs.List.{range_with_len}
use Rattle.hsr_health.specs.Told.{is_one_sided}
use Rattle.hsr_health.proofs.point_reasons.one_sided_of.Given as goal

-- the points so far
abbrev pub invariant-loop-point : goal.invariant-loop-point
invariant-loop-point l = l.flags.items ≡ map (is_one_sided l.ring l.copies) (range_with_len 0 l.point)
