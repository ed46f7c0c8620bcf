use Rattle.std.proofs.Common.{◌≡◌, ◌++◌, codes, take}
use Rattle.std.specs.List.{flat_map}
use Rattle.hsr_naming.specs.Naming.{node_text}
use Rattle.hsr_run_tables.proofs.cells.put_next_nodes.Given as goal

abbrev pub invariant-loop-node : goal.invariant-loop-node
invariant-loop-node l = l.text.items ≡ l.initial.text.items ++ flat_map (λ node. codes " " ++ node_text l.naming node) (take l.node-index l.nodes)
