use Rattle.hsr_load.specs.Sums.{IsWorstBelow}
use Rattle.hsr_load.proofs.window.worst_of_rising.Given as goal

abbrev pub invariant-loop-transit : goal.invariant-loop-transit
invariant-loop-transit l = IsWorstBelow l.transits l.transit-index l.worst
