use Rattle.std.proofs.Common.{◌≡◌, ◌++◌, ◌-◌}
use Rattle.hsr_plan_schedule.specs.Moments.{first_gap, run}
use Rattle.hsr_plan_schedule.proofs.sends.add_run.Given as goal

abbrev pub invariant-loop-count : goal.invariant-loop-count
invariant-loop-count l = l.occasions.items ++ run (l.most - l.count) l.count l.start l.at l.gap l.timing l.until l.sent ≡ l.initial.occasions.items ++ run l.most 0 l.start l.start (first_gap l.timing.pace) l.timing l.until l.sent
