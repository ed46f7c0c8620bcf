use Rattle.std.proofs.Common.{◌≡◌, [], drop, length}
use Rattle.hsr_taps.specs.Named.{AreOwners, names_from}
use Rattle.hsr_taps.proofs.points.points_of.Given as goal

-- the points so far and those of the interfaces that are left are all
abbrev pub invariant-loop-i : goal.invariant-loop-i
invariant-loop-i l = record {
  names : names_from l.choice l.looked_at l.points.items l.i (drop l.i l.interfaces) ≡ names_from l.choice l.looked_at [] 0 l.interfaces;
  long : length l.owners.items ≡ l.i;
  owners : AreOwners l.choice l.looked_at l.interfaces l.points.items l.owners.items;
}
