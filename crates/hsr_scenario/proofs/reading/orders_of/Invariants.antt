use Rattle.std.proofs.Common.{◌≡◌, [], drop, map}
use Rattle.toml.specs.View.{table_view}
use Rattle.hsr_scenario.specs.Fallible.{each}
use Rattle.hsr_scenario.specs.Steps.{order_in}
use Rattle.hsr_scenario.specs.declared.fault.Spot.TheVariants.{Step}
use Rattle.hsr_scenario.proofs.reading.orders_of.Given as goal

abbrev pub invariant-loop-table : goal.invariant-loop-table
invariant-loop-table l =
    each Step (λ _. order_in l.unit l.nodes l.links) l.orders.items (map (λ t. table_view t.now) (drop l.table-index l.tables)) ≡ each Step (λ _. order_in l.unit l.nodes l.links) [] (map (λ t. table_view t.now) l.tables)
