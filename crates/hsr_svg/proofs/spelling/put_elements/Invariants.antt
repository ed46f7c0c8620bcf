use Rattle.std.proofs.Common.{◌≡◌, ◌++◌, take}
use Rattle.std.specs.List.{flat_map}
use Rattle.hsr_svg.specs.Spelling.{element_text}
use Rattle.hsr_svg.proofs.spelling.put_elements.Given as goal

abbrev pub invariant-loop-element : goal.invariant-loop-element
invariant-loop-element l = l.text.items ≡ l.initial.text.items ++ flat_map element_text (take l.element-index l.elements)
