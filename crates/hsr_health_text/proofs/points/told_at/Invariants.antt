use Rattle.std.proofs.Common.{◌≡◌}
use Rattle.hsr_health_text.specs.Points.{kept_of}
use Rattle.hsr_health_text.proofs.points.told_at.Given as goal

abbrev pub invariant-loop-i : goal.invariant-loop-i
invariant-loop-i l = l.kept.items ≡ kept_of l.spans l.point l.i
