use Rattle.std.proofs.Common.{◌≡◌, ◌<◌, ℕ, true}
use Rattle.std.specs.Prelude.{◌↔◌}
use Rattle.hsr_bitset.specs.Numbers.{has_bit}
use Rattle.hsr_deliveries.specs.Delivered.{is_due}
use Rattle.hsr_routes.specs.Routes.{bare}
use Rattle.hsr_faults.proofs.course.due.Given as goal

abbrev pub invariant-loop-node : goal.invariant-loop-node
invariant-loop-node l = (k : ℕ) → k < 64 → (has_bit l.nodes.bits k ≡ true) ↔ ((k < l.node) × (is_due (bare l.topology.places l.topology.links) l.frame.sender l.frame.dst l.frame.kind k ≡ true))
