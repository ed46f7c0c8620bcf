use Rattle.std.proofs.Common.{◌≡◌, drop}
use Rattle.hsr_plan_schedule.specs.Changes.{last_of}
use Rattle.hsr_plan_schedule.proofs.changes.last_of.Given as goal

abbrev pub invariant-loop-next : goal.invariant-loop-next
invariant-loop-next l = last_of l.now l.too l.what l.last (drop l.next-index l.occasions) ≡ last_of l.now l.too l.what l.fn.before l.occasions
