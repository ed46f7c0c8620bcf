use Rattle.std.proofs.Common.{◌≡◌, take}
use Rattle.std.specs.List.{sum_by}
use Rattle.hsr_load.specs.Sums.{AreSums}
use Rattle.hsr_load.specs.Windows.{octets_of}
use Rattle.hsr_load.proofs.window.sums.Given as goal

abbrev pub invariant-loop-transit : goal.invariant-loop-transit
invariant-loop-transit l = record {
  sum : l.sum ≡ sum_by octets_of (take l.transit-index l.transits);
  sums : AreSums l.transits l.transit-index l.sums.items;
}
