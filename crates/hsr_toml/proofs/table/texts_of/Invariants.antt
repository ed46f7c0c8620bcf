use Rattle.std.proofs.Common.{◌≡◌, ◌++◌, drop, map, option_map}
use Rattle.toml.specs.Data.{as_str}
use Rattle.toml.specs.View.{items_view}
use Rattle.hsr_toml.specs.Tables.{all_of}
use Rattle.hsr_toml.proofs.table.texts_of.Given as goal

abbrev pub invariant-loop-item : goal.invariant-loop-item
invariant-loop-item g l =
    option_map (λ xs. map (λ s. s.now) l.texts.items ++ xs) (all_of as_str (items_view (drop l.item-index l.items))) ≡ all_of as_str (items_view l.items)
