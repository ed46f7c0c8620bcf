use Rattle.std.proofs.Common.{◌≡◌, ◌++◌, ◌-◌}
use Rattle.hsr_plan_schedule.specs.Moments.{rounds}
use Rattle.hsr_plan_schedule.proofs.lives.rounds.Given as goal

abbrev pub invariant-loop-round : goal.invariant-loop-round
invariant-loop-round l = l.occasions.items ++ rounds (16384 - l._round) l.at l.every l.until l.nodes ≡ rounds 16384 0 l.every l.until l.nodes
