use Rattle.std.proofs.Common.{◌≡◌}
use Rattle.std.specs.List.{flat_map, range_with_len}
use Rattle.hsr_health_text.specs.Points.{told_at}
use Rattle.hsr_health_text.proofs.points.told_of.Given as goal

abbrev pub invariant-loop-point : goal.invariant-loop-point
invariant-loop-point l = l.told.items ≡ flat_map (told_at l.spans) (range_with_len 0 l.point)
