use Rattle.std.proofs.Common.{◌≡◌, ◌++◌, drop, map}
use Rattle.std.specs.List.{flat_map}
use Rattle.toml.specs.View.{table_view}
use Rattle.hsr_scenario.specs.Streams.{sent_in}
use Rattle.hsr_scenario.proofs.streams.sends_of.Given as goal

abbrev pub invariant-loop-table : goal.invariant-loop-table
invariant-loop-table l =
    l.sends.items ++ flat_map (sent_in l.nodes) (map (λ t. table_view t.now) (drop l.table-index l.tables)) ≡ flat_map (sent_in l.nodes) (map (λ t. table_view t.now) l.tables)
