use Rattle.std.proofs.Common.{◌≡◌, ◌*◌, ◌<◌, ℕ, nat_lt, map}
use Rattle.std.specs.Prelude.{◌&&◌, not, if◌then◌else◌}
use Rattle.hsr_bitset.specs.Numbers.{has}
use Rattle.hsr_world_links.specs.Ports.{is_waiting}
use Rattle.hsr_world_links.specs.Views.{span_view}
use Rattle.hsr_ring.proofs.pending.look_at_node.Given as goal

abbrev pub invariant-loop-number : goal.invariant-loop-number
invariant-loop-number l =
    (k : ℕ) → k < 512 →
    has l.waiting k ≡ (if not (nat_lt k (8 * l.node)) && nat_lt k l.number then is_waiting l.ports (map span_view l.spans) k else has l.fn.waiting k)
