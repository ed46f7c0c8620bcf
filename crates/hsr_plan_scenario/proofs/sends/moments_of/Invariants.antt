use Rattle.std.proofs.Common.{◌≡◌, ◌++◌, length}
use Rattle.hsr_plan_scenario.specs.Sends.{send_moments}
use Rattle.hsr_plan_scenario.proofs.sends.moments_of.Given as goal

abbrev pub invariant-loop-order : goal.invariant-loop-order
invariant-loop-order l = l.moments.items ++ send_moments l.now l.left ≡ send_moments 0 l.orders

abbrev pub decreases-loop-order : goal.decreases-loop-order
decreases-loop-order l = length l.left
