use Rattle.std.proofs.Common.{◌≡◌, ◌≤◌, ◌+◌, length, min}
use Rattle.hsr_plan_scenario.specs.Spelled.{order_lines}
use Rattle.hsr_plan_scenario.proofs.steps.measured_orders.Given as goal

abbrev pub invariant-loop-order : goal.invariant-loop-order
invariant-loop-order l =
    (l.octets ≤ 18446744073709551615)
    × (min (l.octets + length (order_lines l.nodes l.streams l.numbers l.left)) 18446744073709551615
    ≡ min (length (order_lines l.nodes l.streams l.sends l.orders)) 18446744073709551615)

abbrev pub decreases-loop-order : goal.decreases-loop-order
decreases-loop-order l = length l.left
