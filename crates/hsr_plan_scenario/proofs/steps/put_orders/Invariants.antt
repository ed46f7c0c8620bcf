use Rattle.std.proofs.Common.{◌≡◌, ◌++◌, length}
use Rattle.hsr_plan_scenario.specs.Spelled.{order_lines}
use Rattle.hsr_plan_scenario.proofs.steps.put_orders.Given as goal

abbrev pub invariant-loop-order : goal.invariant-loop-order
invariant-loop-order l =
    l.text.items ++ order_lines l.nodes l.streams l.numbers l.left ≡ l.initial.text.items ++ order_lines l.nodes l.streams l.sends l.orders

abbrev pub decreases-loop-order : goal.decreases-loop-order
decreases-loop-order l = length l.left
