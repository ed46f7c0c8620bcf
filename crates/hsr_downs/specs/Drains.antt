-- The drains of a scenario.
--     drain_by   one of them
--     drains     all, in their order
use Rattle.std.specs.Prelude.{ℕ, List, [], ◌∷◌, ◌++◌, Option, Some, None, option_to_list}
use Rattle.hsr_scenario.specs.declared.steps.Order.{Order}
use Rattle.hsr_scenario.specs.declared.steps.Order.TheVariants as order
use Rattle.hsr_downs.specs.Changes.{moment_after, planned_after}
use Rattle.hsr_downs.specs.declared.draining.Drain.{Drain}

-- at a moment, and behind so much that is planned
abbrev pub drain_by : ℕ → ℕ → Order → Option Drain
drain_by moment planned order.Drain = Some (record { moment = moment; planned = planned })
drain_by moment planned _ = None

abbrev pub drains_from : ℕ → ℕ → List Order → List Drain
drains_from moment planned [] = []
drains_from moment planned (order ∷ orders) =
    option_to_list (drain_by moment planned order) ++ drains_from (moment_after moment order) (planned_after planned order) orders

abbrev pub drains : List Order → List Drain
drains orders = drains_from 0 0 orders
