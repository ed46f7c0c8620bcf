use Rattle.std.proofs.Common.{◌≡◌, ◌<◌, ℕ, true}
use Rattle.std.specs.Prelude.{◌↔◌}
use Rattle.hsr_bitset.specs.Numbers.{has}
use Rattle.hsr_network_laws.specs.Network.{stop_of}
use Rattle.hsr_routes.specs.Numbered.{channel_at}
use Rattle.hsr_routes.specs.Routes.{bare}
use Rattle.hsr_faults.proofs.search.stopping.Given as goal

abbrev pub invariant-loop-number : goal.invariant-loop-number
invariant-loop-number l = (n : ℕ) → (has l.set.words n ≡ true) ↔ ((n < l.number) × ((stop_of (bare l.topology.places l.topology.links) (channel_at n)).node ≡ l.node))
