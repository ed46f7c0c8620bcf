use Rattle.std.proofs.Common.{◌≡◌, ◌++◌}
use Rattle.hsr_timeline.specs.Fronts.{lists_of}
use Rattle.hsr_svg.specs.Elements.{shapes}
use Rattle.hsr_diagram_layout.specs.Frame.{heads_below}
use Rattle.hsr_diagram_layout.proofs.frame.add_heads.Given as goal

abbrev pub invariant-loop-number : goal.invariant-loop-number
invariant-loop-number l = shapes l.elements.items ≡ shapes l.initial.elements.items ++ heads_below (lists_of l.names) l.places l.nodes l.number
