use Rattle.std.proofs.Common.{◌≡◌, drop}
use Rattle.hsr_plan_schedule.specs.Room.{young}
use Rattle.hsr_plan_schedule.proofs.room.old.Given as goal

abbrev pub invariant-loop-place : goal.invariant-loop-place
invariant-loop-place l = young l.age l.now (drop l.place l.sends.items) ≡ young l.age l.now l.sends.items
