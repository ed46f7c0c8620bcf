use Rattle.std.proofs.Common.{◌≡◌, ◌-◌, ◌^◌, min, take}
use Rattle.hsr_health.specs.Order.{wrong_lanes}
use Rattle.hsr_health.proofs.order.lane_is_common.Given as goal

-- the sum so far, of 64 bits at most
abbrev pub invariant-loop-own : goal.invariant-loop-own
invariant-loop-own l = l.lane ≡ min (wrong_lanes (take l.own-index l.counts)) (2 ^ 64 - 1)
