use Rattle.std.proofs.Common.{◌≡◌, ◌++◌}
use Rattle.hsr_timeline.specs.Fronts.{lists_of}
use Rattle.hsr_devices.specs.Listing.{devices_below}
use Rattle.hsr_devices.proofs.listing.put_devices.Given as goal

abbrev pub invariant-loop-node : goal.invariant-loop-node
invariant-loop-node g l = l.text.items ≡ l.initial.text.items ++ devices_below (lists_of l.names) l.closed.run l.needed l.node
