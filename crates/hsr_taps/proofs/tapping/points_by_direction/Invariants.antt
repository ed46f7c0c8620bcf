use Rattle.std.proofs.Common.{◌≡◌, length}
use Rattle.hsr_taps.specs.Came.{ArePointsOf}
use Rattle.hsr_taps.proofs.tapping.points_by_direction.Given as goal

abbrev pub invariant-loop-direction : goal.invariant-loop-direction
invariant-loop-direction l = record {
  long : length l.points.items ≡ l.direction;
  points : ArePointsOf l.owners l.points.items;
}
