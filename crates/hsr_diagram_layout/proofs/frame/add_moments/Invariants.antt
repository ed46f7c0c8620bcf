use Rattle.std.proofs.Common.{◌≡◌, ◌++◌, take}
use Rattle.std.specs.List.{flat_map}
use Rattle.hsr_svg.specs.Elements.{shapes}
use Rattle.hsr_diagram_layout.specs.Frame.{moment_shapes}
use Rattle.hsr_diagram_layout.proofs.frame.add_moments.Given as goal

abbrev pub invariant-loop-moment : goal.invariant-loop-moment
invariant-loop-moment l = shapes l.elements.items ≡ shapes l.initial.elements.items ++ flat_map moment_shapes (take l.moment-index l.moments)
