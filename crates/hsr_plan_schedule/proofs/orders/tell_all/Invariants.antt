use Rattle.std.proofs.Common.{◌≡◌, drop}
use Rattle.hsr_plan_schedule.specs.Orders.{tell_all}
use Rattle.hsr_plan_schedule.proofs.orders.tell_all.Given as goal

abbrev pub invariant-loop-occasion : goal.invariant-loop-occasion
invariant-loop-occasion l = tell_all l.setting l.told (drop l.occasion-index l.occasions) ≡ tell_all l.setting l.initial.told l.occasions
