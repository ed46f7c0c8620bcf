use Rattle.std.proofs.Common.{◌≡◌, map, take}
use Rattle.hsr_plan_network.proofs.wiring.places_of.Given as goal

abbrev pub invariant-loop-node : goal.invariant-loop-node
invariant-loop-node l = l.places.items ≡ map (λ node. node.place) (take l.node-index l.nodes)
