use Rattle.std.proofs.Common.{◌≡◌}
use Rattle.hsr_faults.specs.Fault.{offs}
use Rattle.hsr_faults.proofs.faults.push_nodes.Given as goal

abbrev pub invariant-loop-node : goal.invariant-loop-node
invariant-loop-node l = l.list.items ≡ offs l.links l.node
