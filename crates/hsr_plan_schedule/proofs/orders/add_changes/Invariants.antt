use Rattle.std.proofs.Common.{◌≡◌, ◌++◌, drop}
use Rattle.hsr_plan_schedule.specs.Orders.{changes}
use Rattle.hsr_plan_schedule.proofs.orders.add_changes.Given as goal

abbrev pub invariant-loop-link : goal.invariant-loop-link
invariant-loop-link l = l.orders.items ++ changes l.after l.link (drop l.link l.before) ≡ l.initial.orders.items ++ changes l.after 0 l.before
