use Rattle.std.proofs.Common.{◌≡◌, take}
use Rattle.std.specs.List.{sum_by}
use Rattle.hsr_load.specs.Windows.{octets_of}
use Rattle.hsr_load.proofs.transit.octets_of.Given as goal

abbrev pub invariant-loop-transit : goal.invariant-loop-transit
invariant-loop-transit l = l.sum ≡ sum_by octets_of (take l.transit-index l.transits)
