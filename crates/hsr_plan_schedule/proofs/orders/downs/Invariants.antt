use Rattle.std.proofs.Common.{◌≡◌, ◌++◌, drop}
use Rattle.hsr_plan_schedule.specs.Orders.{downs}
use Rattle.hsr_plan_schedule.proofs.orders.downs.Given as goal

abbrev pub invariant-loop-number : goal.invariant-loop-number
invariant-loop-number l = l.downs.items ++ downs l.off l.cut l.number (drop l.number l.links) ≡ downs l.off l.cut 0 l.links
