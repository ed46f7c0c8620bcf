use Rattle.std.proofs.Common.{◌≡◌, ◌++◌, take}
use Rattle.std.specs.List.{flat_map}
use Rattle.hsr_svg.specs.Elements.{shapes}
use Rattle.hsr_diagram_layout.specs.Shades.{change_shapes}
use Rattle.hsr_diagram_layout.proofs.shades.add_changes.Given as goal

abbrev pub invariant-loop-number : goal.invariant-loop-number
invariant-loop-number l = shapes l.elements.items ≡ shapes l.initial.elements.items ++ flat_map (change_shapes l.moments) (take l.number l.downs)
