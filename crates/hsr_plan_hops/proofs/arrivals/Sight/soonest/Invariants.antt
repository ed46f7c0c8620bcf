use Rattle.std.proofs.Common.{◌≡◌, drop}
use Rattle.std.specs.Prelude.{fold}
use Rattle.hsr_plan_hops.specs.Flights.{sooner_on}
use Rattle.hsr_plan_hops.proofs.arrivals.Sight.soonest.Given as goal

abbrev pub invariant-loop-channel : goal.invariant-loop-channel
invariant-loop-channel g l = fold (sooner_on l.transfer l.self) l.next (drop l.channel-index l.channels) ≡ fold (sooner_on l.transfer l.self) l.fn.first l.channels
