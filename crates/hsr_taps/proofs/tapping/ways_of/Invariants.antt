use Rattle.std.proofs.Common.{◌≡◌, length}
use Rattle.hsr_taps.specs.Came.{AreWaysBy}
use Rattle.hsr_taps.proofs.tapping.ways_of.Given as goal

abbrev pub invariant-loop-direction : goal.invariant-loop-direction
invariant-loop-direction l = record {
  long : length l.ways.items ≡ l.direction;
  ways : AreWaysBy l.lane_a l.lane_b l.ways.items;
}
