use Rattle.std.proofs.Common.{◌≡◌, ◌++◌, take}
use Rattle.std.specs.List.{flat_map}
use Rattle.hsr_svg.specs.Elements.{shapes}
use Rattle.hsr_diagram_layout.specs.Switches.{switch_if}
use Rattle.hsr_diagram_layout.proofs.switches.add_switch.Given as goal

abbrev pub invariant-loop-line : goal.invariant-loop-line
invariant-loop-line l = shapes l.elements.items ≡ shapes l.initial.elements.items ++ flat_map (switch_if l.moments l.switch) (take l.line l.nodes)
