use Rattle.std.proofs.Common.{◌≡◌, ◌<◌, ℕ, length, slice_index_or}
use Rattle.hsr_routes.specs.Routes.{bare}
use Rattle.hsr_faults.specs.Search.{AreStopping}
use Rattle.hsr_faults.specs.declared.channels.Channels.{Channels}
use Rattle.hsr_faults.proofs.search.into_nodes.Given as goal

abbrev pub invariant-loop-node : goal.invariant-loop-node
invariant-loop-node l = (length l.into.items ≡ l.node) × ((k : ℕ) (d : Channels) → k < l.node → AreStopping (bare l.topology.places l.topology.links) k (slice_index_or l.into.items k d).words)
