use Rattle.std.proofs.Common.{◌≡◌, take, map}
use Rattle.hsr_scenario.proofs.naming.names_of.Given as goal

abbrev pub invariant-loop-node : goal.invariant-loop-node
invariant-loop-node l = map (λ name. name.items) l.names.items ≡ map (λ node. node.name) (take l.node-index l.nodes)
