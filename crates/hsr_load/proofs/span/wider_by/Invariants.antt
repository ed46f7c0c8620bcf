use Rattle.std.proofs.Common.{◌≡◌, drop}
use Rattle.std.specs.Prelude.{fold}
use Rattle.hsr_load.specs.Loads.{wider}
use Rattle.hsr_load.proofs.span.wider_by.Given as goal

abbrev pub invariant-loop-transit : goal.invariant-loop-transit
invariant-loop-transit l = fold wider l.all (drop l.transit-index l.transits) ≡ fold wider l.fn.ends l.transits
