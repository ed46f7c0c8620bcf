use Rattle.std.proofs.Common.{◌≡◌, false, take}
use Rattle.std.specs.List.{list_any}
use Rattle.hsr_health.specs.Order.{begins_in}
use Rattle.hsr_health.proofs.order.began_in.Given as goal

-- none so far began in the time
abbrev pub invariant-loop-span : goal.invariant-loop-span
invariant-loop-span l = list_any (begins_in l.from l.until) (take l.span-index l.spans) ≡ false
