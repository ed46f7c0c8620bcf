use Rattle.std.proofs.Common.{◌≡◌, ◌++◌, drop}
use Rattle.hsr_plan_schedule.specs.Moments.{lives_at}
use Rattle.hsr_plan_schedule.proofs.lives.add_round.Given as goal

abbrev pub invariant-loop-number : goal.invariant-loop-number
invariant-loop-number l = l.occasions.items ++ lives_at l.at l.number (drop l.number l.nodes) ≡ l.initial.occasions.items ++ lives_at l.at 0 l.nodes
