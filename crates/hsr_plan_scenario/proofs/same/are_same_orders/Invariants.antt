use Rattle.std.proofs.Common.{◌≡◌, ◌++◌, take}
use Rattle.hsr_plan_scenario.proofs.same.are_same_orders.Given as goal

abbrev pub invariant-loop-order : goal.invariant-loop-order
invariant-loop-order l = take l.order-index l.a ++ l.left ≡ l.b
