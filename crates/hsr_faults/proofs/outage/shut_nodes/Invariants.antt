use Rattle.std.proofs.Common.{◌≡◌, ◌<◌, ℕ}
use Rattle.hsr_bitset.specs.Numbers.{has_bit}
use Rattle.hsr_faults.specs.Fault.{is_node_off}
use Rattle.hsr_faults.proofs.outage.shut_nodes.Given as goal

abbrev pub invariant-loop-node : goal.invariant-loop-node
invariant-loop-node l = (k : ℕ) → k < l.node → has_bit l.nodes.bits k ≡ is_node_off l.fault k
