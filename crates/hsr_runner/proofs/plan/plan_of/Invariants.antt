use Rattle.std.proofs.Common.{◌≡◌, ◌++◌, length}
use Rattle.hsr_runner.specs.Plan.{plan_from}
use Rattle.hsr_runner.proofs.plan.plan_of.Given as goal

abbrev pub invariant-loop-order : goal.invariant-loop-order
invariant-loop-order l = l.plan.items ++ plan_from l.at l.rest ≡ plan_from 0 l.fn.orders

abbrev pub decreases-loop-order : goal.decreases-loop-order
decreases-loop-order l = length l.rest
