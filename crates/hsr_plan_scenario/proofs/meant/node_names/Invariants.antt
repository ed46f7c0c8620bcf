use Rattle.std.proofs.Common.{◌≡◌, take, map}
use Rattle.hsr_timeline.specs.Fronts.{lists_of}
use Rattle.hsr_plan_scenario.proofs.meant.node_names.Given as goal

abbrev pub invariant-loop-node : goal.invariant-loop-node
invariant-loop-node l = lists_of l.names.items ≡ map (λ node. node.name) (take l.node-index l.nodes)
