use Rattle.std.proofs.Common.{◌≡◌, [], drop, map}
use Rattle.toml.specs.View.{table_view}
use Rattle.hsr_plan_text.specs.Fallible.{each}
use Rattle.hsr_plan_text.specs.Events.{event_in}
use Rattle.hsr_plan_text.specs.declared.fault.Spot.TheVariants.{Event}
use Rattle.hsr_plan_text.proofs.reading.events_of.Given as goal

abbrev pub invariant-loop-table : goal.invariant-loop-table
invariant-loop-table l =
    each Event event_in l.events.items (map (λ t. table_view t.now) (drop l.table-index l.tables)) ≡ each Event event_in [] (map (λ t. table_view t.now) l.tables)
