use Rattle.std.proofs.Common.{◌≡◌, ◌++◌, take}
use Rattle.std.specs.List.{flat_map}
use Rattle.hsr_timeline.specs.Fronts.{lists_of}
use Rattle.hsr_svg.specs.Elements.{shapes}
use Rattle.hsr_diagram_layout.specs.Telling.{told_at}
use Rattle.hsr_diagram_layout.proofs.telling.add_all_told.Given as goal

abbrev pub invariant-loop-number : goal.invariant-loop-number
invariant-loop-number l = shapes l.elements.items ≡ shapes l.initial.elements.items ++ flat_map (told_at (lists_of l.names) l.deliveries) (take l.number-index l.numbers)
