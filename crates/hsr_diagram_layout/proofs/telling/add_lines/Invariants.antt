use Rattle.std.proofs.Common.{◌≡◌, ◌++◌, map, take}
use Rattle.hsr_timeline.specs.Fronts.{lists_of}
use Rattle.hsr_svg.specs.Elements.{shapes}
use Rattle.hsr_diagram_layout.specs.Telling.{line_shape}
use Rattle.hsr_diagram_layout.proofs.telling.add_lines.Given as goal

abbrev pub invariant-loop-line : goal.invariant-loop-line
invariant-loop-line l = shapes l.elements.items ≡ shapes l.initial.elements.items ++ map line_shape (lists_of (take l.line-index l.lines))
