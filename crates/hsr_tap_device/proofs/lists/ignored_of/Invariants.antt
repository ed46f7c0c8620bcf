use Rattle.std.proofs.Common.{◌≡◌, drop}
use Rattle.toml.specs.View.{items_view}
use Rattle.hsr_tap_device.specs.Lists.{ignored_from}
use Rattle.hsr_tap_device.specs.Words.{nothing_ignored}
use Rattle.hsr_tap_device.proofs.lists.ignored_of.Given as goal

abbrev pub invariant-loop-item : goal.invariant-loop-item
invariant-loop-item l = ignored_from l.ignored (items_view (drop l.item-index l.items)) ≡ ignored_from nothing_ignored (items_view l.items)
