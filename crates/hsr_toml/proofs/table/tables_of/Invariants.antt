use Rattle.std.proofs.Common.{◌≡◌, ◌++◌, drop, map, option_map}
use Rattle.toml.specs.Data.{as_table}
use Rattle.toml.specs.View.{items_view, table_view}
use Rattle.hsr_toml.specs.Tables.{all_of}
use Rattle.hsr_toml.proofs.table.tables_of.Given as goal

abbrev pub invariant-loop-item : goal.invariant-loop-item
invariant-loop-item g l =
    option_map (λ xs. map (λ t. table_view t.now) l.tables.items ++ xs) (all_of as_table (items_view (drop l.item-index l.items))) ≡ all_of as_table (items_view l.items)
