use Rattle.std.proofs.Common.{◌≡◌, ◌++◌, take}
use Rattle.std.specs.List.{flat_map}
use Rattle.hsr_svg.specs.Elements.{shapes}
use Rattle.hsr_diagram_layout.specs.Switches.{switch_shapes}
use Rattle.hsr_diagram_layout.proofs.switches.add_switches.Given as goal

abbrev pub invariant-loop-number : goal.invariant-loop-number
invariant-loop-number l = shapes l.elements.items ≡ shapes l.initial.elements.items ++ flat_map (switch_shapes l.moments l.nodes) (take l.number l.switches)
