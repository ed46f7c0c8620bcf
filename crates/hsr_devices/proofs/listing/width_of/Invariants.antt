use Rattle.std.proofs.Common.{◌≡◌, drop}
use Rattle.std.specs.Prelude.{fold}
use Rattle.hsr_timeline.specs.Fronts.{lists_of}
use Rattle.hsr_devices.specs.Listing.{wider}
use Rattle.hsr_devices.proofs.listing.width_of.Given as goal

abbrev pub invariant-loop-text : goal.invariant-loop-text
invariant-loop-text l = fold wider l.width (lists_of (drop l.text-index l.texts)) ≡ fold wider 10 (lists_of l.texts)
