use Rattle.std.proofs.Common.{◌≡◌}
use Rattle.hsr_health_text.specs.Points.{left_of}
use Rattle.hsr_health_text.proofs.points.left_of.Given as goal

abbrev pub invariant-loop-i : goal.invariant-loop-i
invariant-loop-i l = l.left ≡ left_of l.spans l.point l.told l.i
