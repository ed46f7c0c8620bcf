use Rattle.std.proofs.Common.{◌≡◌, ◌++◌, take}
use Rattle.std.specs.List.{flat_map}
use Rattle.hsr_timeline.specs.Fronts.{lists_of}
use Rattle.hsr_svg.specs.Elements.{shapes}
use Rattle.hsr_diagram_layout.specs.Marks.{sent_marks}
use Rattle.hsr_diagram_layout.proofs.marks.add_marks.Given as goal

abbrev pub invariant-loop-sent : goal.invariant-loop-sent
invariant-loop-sent l = shapes l.elements.items ≡ shapes l.initial.elements.items ++ flat_map (sent_marks (lists_of l.names) l.sheet.columns.nodes.items l.deliveries) (take l.sent-index l.sends)
