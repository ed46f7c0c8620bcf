use Rattle.std.proofs.Common.{◌≡◌, length}
use Rattle.hsr_taps.specs.Came.{AreSumsBy}
use Rattle.hsr_taps.proofs.tapping.sums_of.Given as goal

abbrev pub invariant-loop-direction : goal.invariant-loop-direction
invariant-loop-direction l = record {
  long : length l.sums.items ≡ l.direction;
  sums : AreSumsBy l.lane_a l.lane_b l.sums.items;
}
