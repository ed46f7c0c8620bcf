use Rattle.std.proofs.Common.{◌≡◌, ◌++◌}
use Rattle.std.specs.List.{flat_map, range_with_len}
use Rattle.hsr_health_text.specs.Points.{direction_at}
use Rattle.hsr_health_text.proofs.points.put_directions.Given as goal

abbrev pub invariant-loop-d : goal.invariant-loop-d
invariant-loop-d l = l.text.items ≡ l.initial.text.items ++ flat_map (direction_at l.health l.point) (range_with_len 0 l.d)
