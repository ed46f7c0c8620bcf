use Rattle.std.proofs.Common.{◌≡◌, drop}
use Rattle.hsr_plan_hops.specs.Flights.{on_way}
use Rattle.hsr_plan_hops.proofs.flights.landed.Given as goal

abbrev pub invariant-loop-place : goal.invariant-loop-place
invariant-loop-place g l = on_way l.world (drop l.place l.flights.items) ≡ on_way l.world l.flights.items
