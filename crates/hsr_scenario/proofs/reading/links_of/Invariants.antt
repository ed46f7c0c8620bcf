use Rattle.std.proofs.Common.{◌≡◌, [], drop, map}
use Rattle.toml.specs.View.{table_view}
use Rattle.hsr_scenario.specs.Fallible.{each}
use Rattle.hsr_scenario.specs.Links.{link_in}
use Rattle.hsr_scenario.specs.declared.fault.Spot.TheVariants.{Link}
use Rattle.hsr_scenario.proofs.reading.links_of.Given as goal

abbrev pub invariant-loop-table : goal.invariant-loop-table
invariant-loop-table l =
    each Link (λ _. link_in l.nodes) l.links.items (map (λ t. table_view t.now) (drop l.table-index l.tables)) ≡ each Link (λ _. link_in l.nodes) [] (map (λ t. table_view t.now) l.tables)
