use Rattle.std.proofs.Common.{◌≡◌, None, drop}
use Rattle.hsr_plan_sweep.specs.Audience.{last_turn}
use Rattle.hsr_plan_sweep.proofs.audience.last_turn.Given as goal

abbrev pub invariant-loop-event : goal.invariant-loop-event
invariant-loop-event l = last_turn l.now l.name l.last (drop l.event-index l.events) ≡ last_turn l.now l.name None l.events
