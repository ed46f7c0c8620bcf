use Rattle.std.proofs.Common.{◌≡◌, length, drop}
use Rattle.hsr_plan_schedule.specs.Moments.{left, runs}
use Rattle.hsr_plan_schedule.proofs.sends.left_by_runs.Given as goal

abbrev pub invariant-loop-state : goal.invariant-loop-state
invariant-loop-state l = left l.rest (length (runs l.state (drop l.state l.timing.starts) l.timing l.until l.sent)) ≡ left l.room (length (runs 0 l.timing.starts l.timing l.until l.sent))
