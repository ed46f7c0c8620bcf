use Rattle.std.proofs.Common.{◌≡◌, ◌++◌, length}
use Rattle.hsr_plan_scenario.specs.Sends.{sent_by_all}
use Rattle.hsr_plan_scenario.proofs.sends.sent_by_all.Given as goal

abbrev pub invariant-loop-order : goal.invariant-loop-order
invariant-loop-order l = l.sent.items ++ sent_by_all l.streams l.numbers l.left ≡ sent_by_all l.streams l.sends l.orders

abbrev pub decreases-loop-order : goal.decreases-loop-order
decreases-loop-order l = length l.left
