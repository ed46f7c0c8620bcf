use Rattle.std.proofs.Common.{◌≡◌, length}
use Rattle.hsr_devices.specs.Listing.{AreMost}
use Rattle.hsr_devices.proofs.listing.all_needed.Given as goal

abbrev pub invariant-loop-node : goal.invariant-loop-node
invariant-loop-node g l = record {
  many : length l.needed.items ≡ l.node;
  each : AreMost l.closed.run 0 l.needed.items;
}
