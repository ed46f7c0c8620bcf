use Rattle.std.proofs.Common.{◌≡◌, drop}
use Rattle.hsr_plan_schedule.specs.Occasions.{sends_from}
use Rattle.hsr_plan_schedule.proofs.occasions.add_sends.Given as goal

abbrev pub invariant-loop-number : goal.invariant-loop-number
invariant-loop-number l = sends_from l.nodes l.until l.occasions.items l.number (drop l.number l.streams) ≡ sends_from l.nodes l.until l.initial.occasions.items 0 l.streams
