use Rattle.std.proofs.Common.{◌≡◌, ◌++◌, map, take}
use Rattle.hsr_timeline.specs.Fronts.{lists_of}
use Rattle.hsr_svg.specs.Elements.{shapes}
use Rattle.hsr_diagram_layout.specs.Arrows.{arrow_shape}
use Rattle.hsr_diagram_layout.proofs.arrows.add_arrows.Given as goal

abbrev pub invariant-loop-arrow : goal.invariant-loop-arrow
invariant-loop-arrow g l = shapes l.elements.items ≡ shapes l.initial.elements.items ++ map (arrow_shape (lists_of l.names) l.closed.run) (take l.arrow-index l.arrows)
