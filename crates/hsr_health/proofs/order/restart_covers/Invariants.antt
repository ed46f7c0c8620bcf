use Rattle.std.proofs.Common.{◌≡◌, false, take}
use Rattle.std.specs.List.{list_any}
use Rattle.hsr_health.specs.Order.{began_in}
use Rattle.hsr_health.proofs.order.restart_covers.Given as goal

-- none so far covers one
abbrev pub invariant-loop-restart : goal.invariant-loop-restart
invariant-loop-restart l = list_any (λ r. began_in l.spans r.since r.at) (take l.restart-index l.restarts) ≡ false
