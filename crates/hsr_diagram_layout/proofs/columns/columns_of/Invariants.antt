use Rattle.std.proofs.Common.{◌≡◌, take}
use Rattle.hsr_diagram.specs.Panels.{lanes_in}
use Rattle.hsr_diagram_layout.specs.Frame.{nodes_of}
use Rattle.hsr_diagram_layout.proofs.columns.columns_of.Given as goal

abbrev pub invariant-loop-panel : goal.invariant-loop-panel
invariant-loop-panel l =
    (l.columns.nodes.items ≡ nodes_of (take l.panel-index l.panels)) × (l.columns.lanes.items ≡ lanes_in (take l.panel-index l.panels))
