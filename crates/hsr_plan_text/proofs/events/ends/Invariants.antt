use Rattle.std.proofs.Common.{◌≡◌, [], drop}
use Rattle.toml.specs.View.{items_view}
use Rattle.hsr_toml.specs.Fallible.{each_item}
use Rattle.hsr_plan_text.specs.Events.{end}
use Rattle.hsr_plan_text.proofs.events.ends.Given as goal

abbrev pub invariant-loop-item : goal.invariant-loop-item
invariant-loop-item l =
    each_item (end l.key) l.ends.items (items_view (drop l.item-index l.item-items)) ≡ each_item (end l.key) [] (items_view l.item-items)
