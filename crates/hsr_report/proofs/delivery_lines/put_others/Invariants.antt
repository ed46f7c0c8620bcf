use Rattle.std.proofs.Common.{◌≡◌, ◌++◌, take}
use Rattle.std.specs.List.{flat_map}
use Rattle.hsr_naming.specs.Naming.{node_text}
use Rattle.hsr_report.specs.DeliveryLines.{behind}
use Rattle.hsr_report.proofs.delivery_lines.put_others.Given as goal

abbrev pub invariant-loop-node : goal.invariant-loop-node
invariant-loop-node l = l.text.items ≡ l.initial.text.items ++ flat_map (behind (node_text l.naming)) (take l.node-index l.nodes)
