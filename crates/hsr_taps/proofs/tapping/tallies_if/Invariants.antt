use Rattle.std.proofs.Common.{◌≡◌, length}
use Rattle.hsr_taps.specs.Came.{AreTalliesBy}
use Rattle.hsr_taps.proofs.tapping.tallies_if.Given as goal

abbrev pub invariant-loop-i : goal.invariant-loop-i
invariant-loop-i l = record {
  long : length l.all.items ≡ l.i;
  tallies : AreTalliesBy l.looked_at l.tallies l.all.items;
}
