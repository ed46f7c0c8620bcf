use Rattle.std.proofs.Common.{◌≡◌, ◌++◌, take}
use Rattle.std.specs.List.{flat_map}
use Rattle.hsr_timeline.specs.Fronts.{lists_of}
use Rattle.hsr_devices.specs.Describing.{next_name}
use Rattle.hsr_devices.proofs.describing.put_next_names.Given as goal

abbrev pub invariant-loop-node : goal.invariant-loop-node
invariant-loop-node l = l.text.items ≡ l.initial.text.items ++ flat_map (next_name (lists_of l.initial.names)) (take l.node-index l.nodes)
