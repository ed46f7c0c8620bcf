use Rattle.std.proofs.Common.{◌≡◌, ◌++◌}
use Rattle.std.specs.List.{flat_map, range_with_len}
use Rattle.hsr_health_text.specs.Points.{spans_at}
use Rattle.hsr_health_text.proofs.points.put_all_spans.Given as goal

abbrev pub invariant-loop-p : goal.invariant-loop-p
invariant-loop-p l = l.text.items ≡ l.initial.text.items ++ flat_map (spans_at l.health) (range_with_len 0 l.p)
