use Rattle.std.proofs.Common.{◌≡◌, take, map}
use Rattle.hsr_scenario.proofs.reading.places_of.Given as goal

abbrev pub invariant-loop-node : goal.invariant-loop-node
invariant-loop-node l = l.places.items ≡ map (λ node. node.place) (take l.node-index l.nodes)
