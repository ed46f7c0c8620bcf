use Rattle.std.proofs.Common.{◌≡◌, ◌++◌, drop}
use Rattle.hsr_plan_schedule.specs.Moments.{runs}
use Rattle.hsr_plan_schedule.proofs.sends.add_runs.Given as goal

abbrev pub invariant-loop-state : goal.invariant-loop-state
invariant-loop-state l = l.occasions.items ++ runs l.state (drop l.state l.timing.starts) l.timing l.until l.sent ≡ l.initial.occasions.items ++ runs 0 l.timing.starts l.timing l.until l.sent
