use Rattle.std.proofs.Common.{◌≡◌, map, take}
use Rattle.hsr_diagram_layout.specs.Items.{item_of}
use Rattle.hsr_diagram_layout.proofs.items.items_of.Given as goal

abbrev pub invariant-loop-sent : goal.invariant-loop-sent
invariant-loop-sent l = l.items.items ≡ map item_of (take l.sent-index l.sends)
