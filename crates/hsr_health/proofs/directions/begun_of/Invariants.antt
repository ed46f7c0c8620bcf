use Rattle.std.proofs.Common.{◌≡◌, length, take}
use Rattle.hsr_health.specs.Counted.{AreBegun}
use Rattle.hsr_health.proofs.directions.begun_of.Given as goal

-- those so far
abbrev pub invariant-loop-i : goal.invariant-loop-i
invariant-loop-i l = record {
  long : length l.begun.items ≡ l.points;
  begun : AreBegun (take l.i l.sightings) l.begun.items;
}
