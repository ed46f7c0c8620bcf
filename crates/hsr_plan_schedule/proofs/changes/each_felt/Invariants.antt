use Rattle.std.proofs.Common.{◌≡◌, drop}
use Rattle.hsr_plan_schedule.specs.Changes.{each_felt}
use Rattle.hsr_plan_schedule.proofs.changes.each_felt.Given as goal

abbrev pub invariant-loop-number : goal.invariant-loop-number
invariant-loop-number l = each_felt l.events l.number (drop l.number l.events) ≡ each_felt l.events 0 l.events
