use Rattle.std.proofs.Common.{◌≡◌, drop}
use Rattle.hsr_plan_schedule.specs.Orders.{speak_of}
use Rattle.hsr_plan_schedule.proofs.orders.Told.speak_of.Given as goal

abbrev pub invariant-loop-mac : goal.invariant-loop-mac
invariant-loop-mac l = speak_of l.setting l.node (drop l.mac-index l.macs) l.self ≡ speak_of l.setting l.node l.macs l.initial.self
