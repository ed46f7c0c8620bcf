use Rattle.std.proofs.Common.{◌≡◌, map, take}
use Rattle.hsr_plan_network.specs.Nodes.{ring_node}
use Rattle.hsr_plan_network.proofs.nodes.ring_nodes.Given as goal

abbrev pub invariant-loop-name : goal.invariant-loop-name
invariant-loop-name l = l.nodes.items ≡ map (ring_node l.network) (take l.name-index l.names)
