use Rattle.std.proofs.Common.{◌≡◌, map, take}
use Rattle.hsr_devices.specs.Listing.{amount_at}
use Rattle.hsr_devices.proofs.listing.amounts.Given as goal

abbrev pub invariant-loop-link : goal.invariant-loop-link
invariant-loop-link l = l.amounts.items ≡ map (amount_at l.what) (take l.link-index l.links)
