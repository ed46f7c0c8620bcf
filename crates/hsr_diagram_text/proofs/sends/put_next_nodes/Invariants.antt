use Rattle.std.proofs.Common.{◌≡◌, ◌++◌, take}
use Rattle.std.specs.List.{flat_map}
use Rattle.hsr_timeline.specs.Fronts.{lists_of}
use Rattle.hsr_diagram_text.specs.Sends.{next_node}
use Rattle.hsr_diagram_text.proofs.sends.put_next_nodes.Given as goal

abbrev pub invariant-loop-node : goal.invariant-loop-node
invariant-loop-node l = l.text.items ≡ l.initial.text.items ++ flat_map (next_node (lists_of l.names)) (take l.node-index l.nodes)
