use Rattle.std.proofs.Common.{◌≡◌, [], drop}
use Rattle.toml.specs.View.{items_view}
use Rattle.hsr_toml.specs.Fallible.{each_item}
use Rattle.hsr_tap_device.specs.Lists.{down}
use Rattle.hsr_tap_device.proofs.lists.downs_of.Given as goal

abbrev pub invariant-loop-item : goal.invariant-loop-item
invariant-loop-item l =
    each_item (down l.role) l.downs.items (items_view (drop l.item-index l.items)) ≡ each_item (down l.role) [] (items_view l.items)
