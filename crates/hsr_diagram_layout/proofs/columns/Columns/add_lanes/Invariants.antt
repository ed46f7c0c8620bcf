use Rattle.std.proofs.Common.{◌≡◌, ◌++◌, map, take}
use Rattle.hsr_diagram_layout.proofs.columns.Columns.add_lanes.Given as goal

abbrev pub invariant-loop-lane : goal.invariant-loop-lane
invariant-loop-lane l =
    (l.self.nodes.items ≡ l.initial.self.nodes.items ++ map (λ lane. lane.right.node) (take l.lane-index l.lanes))
    × (l.self.lanes.items ≡ l.initial.self.lanes.items ++ take l.lane-index l.lanes)
