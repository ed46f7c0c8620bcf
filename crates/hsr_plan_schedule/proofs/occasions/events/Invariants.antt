use Rattle.std.proofs.Common.{◌≡◌, [], drop}
use Rattle.hsr_plan_schedule.specs.Occasions.{events_from}
use Rattle.hsr_plan_schedule.proofs.occasions.events.Given as goal

abbrev pub invariant-loop-event : goal.invariant-loop-event
invariant-loop-event l = events_from l.until l.nodes l.links l.occasions.items (drop l.event-index l.events) ≡ events_from l.until l.nodes l.links [] l.events
