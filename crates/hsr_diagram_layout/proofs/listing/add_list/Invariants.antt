use Rattle.std.proofs.Common.{◌≡◌, ◌++◌, take}
use Rattle.std.specs.List.{flat_map}
use Rattle.hsr_timeline.specs.Fronts.{lists_of}
use Rattle.hsr_svg.specs.Elements.{shapes}
use Rattle.hsr_diagram_layout.specs.Listing.{item_shapes}
use Rattle.hsr_diagram_layout.proofs.listing.add_list.Given as goal

abbrev pub invariant-loop-item : goal.invariant-loop-item
invariant-loop-item g l = shapes l.elements.items ≡ shapes l.initial.elements.items ++ flat_map (item_shapes (lists_of l.names) l.closed.run l.deliveries) (take l.item-index l.items)
