use Rattle.std.proofs.Common.{◌≡◌, replicate}
use Rattle.hsr_plan_hops.specs.Flights.{no_channel}
use Rattle.hsr_plan_hops.proofs.flights.empty.Given as goal

abbrev pub invariant-loop-place : goal.invariant-loop-place
invariant-loop-place l = l.list.items ≡ replicate l._place no_channel
