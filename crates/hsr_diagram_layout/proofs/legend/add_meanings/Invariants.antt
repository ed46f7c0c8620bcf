use Rattle.std.proofs.Common.{◌≡◌, ◌++◌, take}
use Rattle.std.specs.List.{flat_map}
use Rattle.hsr_svg.specs.Elements.{shapes}
use Rattle.hsr_diagram_layout.specs.Legend.{sample_if}
use Rattle.hsr_diagram_layout.proofs.legend.add_meanings.Given as goal

abbrev pub invariant-loop-look : goal.invariant-loop-look
invariant-loop-look l = shapes l.elements.items ≡ shapes l.initial.elements.items ++ flat_map (sample_if l.arrows) (take l.look-index l.looks)
