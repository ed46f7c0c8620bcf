use Rattle.std.proofs.Common.{◌≡◌, ◌++◌, take}
use Rattle.std.specs.List.{flat_map}
use Rattle.hsr_svg.specs.Elements.{shapes}
use Rattle.hsr_diagram_layout.specs.Frame.{link_shapes}
use Rattle.hsr_diagram_layout.proofs.frame.add_links.Given as goal

abbrev pub invariant-loop-number : goal.invariant-loop-number
invariant-loop-number l = shapes l.elements.items ≡ shapes l.initial.elements.items ++ flat_map (link_shapes l.places) (take l.number l.lanes)
