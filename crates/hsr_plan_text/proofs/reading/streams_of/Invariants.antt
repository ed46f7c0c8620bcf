use Rattle.std.proofs.Common.{◌≡◌, [], drop, map}
use Rattle.toml.specs.View.{table_view}
use Rattle.hsr_plan_text.specs.Fallible.{each}
use Rattle.hsr_plan_text.specs.Streams.{stream_in}
use Rattle.hsr_plan_text.specs.declared.fault.Spot.TheVariants.{Stream}
use Rattle.hsr_plan_text.proofs.reading.streams_of.Given as goal

abbrev pub invariant-loop-table : goal.invariant-loop-table
invariant-loop-table l =
    each Stream stream_in l.streams.items (map (λ t. table_view t.now) (drop l.table-index l.tables)) ≡ each Stream stream_in [] (map (λ t. table_view t.now) l.tables)
