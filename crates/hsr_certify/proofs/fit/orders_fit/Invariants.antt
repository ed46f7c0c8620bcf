use Rattle.std.specs.Prelude.{ℕ, ◌<◌, slice_index_or}
use Rattle.hsr_plays.specs.Setup.{FitsOrder}
use Rattle.hsr_scenario.specs.declared.steps.Order.{Order}
use Rattle.hsr_certify.proofs.fit.orders_fit.Given as goal

-- those that were seen
abbrev pub invariant-loop-order : goal.invariant-loop-order
invariant-loop-order l = (k : ℕ) (d : Order) → k < l.order-index → FitsOrder (slice_index_or l.orders k d)
