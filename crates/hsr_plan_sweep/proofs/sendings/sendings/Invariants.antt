use Rattle.std.proofs.Common.{◌≡◌, ◌++◌, drop}
use Rattle.hsr_plan_sweep.specs.Sendings.{sendings}
use Rattle.hsr_plan_sweep.proofs.sendings.sendings.Given as goal

abbrev pub invariant-loop-order : goal.invariant-loop-order
invariant-loop-order l = l.list.items ++ sendings l.next (drop l.order-index l.orders) ≡ sendings l.streams l.orders
