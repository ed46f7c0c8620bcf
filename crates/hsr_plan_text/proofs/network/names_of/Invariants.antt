use Rattle.std.proofs.Common.{◌≡◌, [], drop}
use Rattle.toml.specs.View.{items_view}
use Rattle.hsr_toml.specs.Fallible.{each_item}
use Rattle.hsr_plan_text.specs.Network.{name}
use Rattle.hsr_plan_text.proofs.network.names_of.Given as goal

abbrev pub invariant-loop-item : goal.invariant-loop-item
invariant-loop-item l =
    each_item (name l.key) l.names.items (items_view (drop l.item-index l.items)) ≡ each_item (name l.key) [] (items_view l.items)
