use Rattle.std.proofs.Common.{◌≡◌, length}
use Rattle.hsr_sightings.specs.Demand.{IsDemand}
use Rattle.hsr_sightings.proofs.late.needed_of.Given as goal

-- what the copies so far needed
abbrev pub invariant-loop-i : goal.invariant-loop-i
invariant-loop-i l = record {
  demand : IsDemand l.ring l.copies l.i l.demand.begun.items l.demand.most.items;
  long : length l.demand.begun.items ≡ l.points;
}
