use Rattle.std.proofs.Common.{◌≡◌, take}
use Rattle.hsr_plan_network.specs.Nodes.{boxes_of}
use Rattle.hsr_plan_network.proofs.nodes.boxes_of.Given as goal

abbrev pub invariant-loop-name : goal.invariant-loop-name
invariant-loop-name l = l.boxes.items ≡ boxes_of l.network (take l.name-index l.names)
