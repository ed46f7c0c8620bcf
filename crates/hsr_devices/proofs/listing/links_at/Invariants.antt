use Rattle.std.proofs.Common.{◌≡◌}
use Rattle.hsr_devices.specs.Listing.{links_at}
use Rattle.hsr_devices.proofs.listing.links_at.Given as goal

abbrev pub invariant-loop-port : goal.invariant-loop-port
invariant-loop-port g l = l.links.items ≡ links_at l.closed.run l.node l.port
