use Rattle.std.proofs.Common.{◌≡◌, length}
use Rattle.hsr_sightings.specs.Read.{AreCrowds}
use Rattle.hsr_sightings.proofs.late.crowds_of.Given as goal

-- the crowds of the points so far
abbrev pub invariant-loop-point : goal.invariant-loop-point
invariant-loop-point l = record {
  long : length l.crowds.items ≡ l.point;
  crowds : AreCrowds l.ring l.copies l.crowds.items;
}
