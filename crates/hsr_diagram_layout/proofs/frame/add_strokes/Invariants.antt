use Rattle.std.proofs.Common.{◌≡◌, ◌++◌}
use Rattle.hsr_svg.specs.Elements.{shapes}
use Rattle.hsr_diagram_layout.specs.Frame.{strokes_below}
use Rattle.hsr_diagram_layout.proofs.frame.add_strokes.Given as goal

abbrev pub invariant-loop-number : goal.invariant-loop-number
invariant-loop-number l = shapes l.elements.items ≡ shapes l.initial.elements.items ++ strokes_below l.nodes l.number
