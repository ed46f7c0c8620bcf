use Rattle.std.proofs.Common.{◌≡◌, ◌++◌, map, take}
use Rattle.hsr_plan_network.specs.Nodes.{station_node}
use Rattle.hsr_plan_network.proofs.nodes.add_stations.Given as goal

abbrev pub invariant-loop-redbox : goal.invariant-loop-redbox
invariant-loop-redbox l = l.nodes.items ≡ l.initial.nodes.items ++ map (station_node l.network l.boxes) (take l.redbox-index l.boxes)
