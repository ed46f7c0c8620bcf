use Rattle.std.proofs.Common.{◌≡◌, length, take}
use Rattle.hsr_health.specs.Counted.{AreBesides}
use Rattle.hsr_health.proofs.directions.besides_of.Given as goal

-- those of the frames so far
abbrev pub invariant-loop-i : goal.invariant-loop-i
invariant-loop-i l = record {
  long : length l.all.items ≡ l.points;
  all : AreBesides l.ring l.copies l.way (take l.i l.sightings) l.all.items;
}
