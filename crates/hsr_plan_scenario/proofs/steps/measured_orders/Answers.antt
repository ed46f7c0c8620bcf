use Rattle.std.proofs.Common.{rules, ◌≡◌, length}
use Rattle.hsr_plan_scenario.proofs.Orders.{measured_end}
use Rattle.hsr_plan_scenario.proofs.steps.measured_orders.Goals as goal

pub returns : goal.returns
returns c =
    let none : length c.loop-order.left.now ≡ 0 = search rules in
    measured_end c.args.nodes.now c.args.streams.now c.loop-order.numbers.now c.loop-order.left.now c.loop-order.octets 18446744073709551615 _ none
    c.loop-order.invariant.0 c.loop-order.invariant.1
