use Rattle.std.proofs.Common.{◌≡◌, ◌++◌, take}
use Rattle.std.specs.List.{flat_map}
use Rattle.hsr_timeline.specs.Fronts.{lists_of}
use Rattle.hsr_svg.specs.Elements.{shapes}
use Rattle.hsr_diagram_layout.specs.Arrows.{label_shapes}
use Rattle.hsr_diagram_layout.proofs.arrows.add_labels.Given as goal

abbrev pub invariant-loop-arrow : goal.invariant-loop-arrow
invariant-loop-arrow g l = shapes l.elements.items ≡ shapes l.initial.elements.items ++ flat_map (label_shapes (lists_of l.names) l.closed.run l.has_one) (take l.arrow-index l.arrows)
