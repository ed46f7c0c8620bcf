use Rattle.std.proofs.Common.{◌≡◌, [], drop, map}
use Rattle.toml.specs.View.{table_view}
use Rattle.hsr_scenario.specs.Fallible.{each}
use Rattle.hsr_scenario.specs.Nodes.{node_in}
use Rattle.hsr_scenario.specs.declared.fault.Spot.TheVariants.{Node}
use Rattle.hsr_scenario.proofs.reading.nodes_of.Given as goal

abbrev pub invariant-loop-table : goal.invariant-loop-table
invariant-loop-table l =
    each Node node_in l.nodes.items (map (λ t. table_view t.now) (drop l.table-index l.tables)) ≡ each Node node_in [] (map (λ t. table_view t.now) l.tables)
