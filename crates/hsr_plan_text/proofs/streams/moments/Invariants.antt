use Rattle.std.proofs.Common.{◌≡◌, [], drop}
use Rattle.toml.specs.View.{items_view}
use Rattle.hsr_toml.specs.Fallible.{each_item}
use Rattle.hsr_plan_text.specs.Tables.{moment}
use Rattle.hsr_plan_text.proofs.streams.moments.Given as goal

abbrev pub invariant-loop-item : goal.invariant-loop-item
invariant-loop-item l =
    each_item (moment l.key) l.moments.items (items_view (drop l.item-index l.item-items)) ≡ each_item (moment l.key) [] (items_view l.item-items)
