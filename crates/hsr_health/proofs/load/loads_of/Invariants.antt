use Rattle.std.proofs.Common.{◌≡◌, length}
use Rattle.hsr_health.specs.Loads.{AreLoads}
use Rattle.hsr_health.proofs.load.loads_of.Given as goal

-- of each interface so far its load is told
abbrev pub invariant-loop-i : goal.invariant-loop-i
invariant-loop-i l = record {
  long : length l.loads.items ≡ l.i;
  loads : AreLoads l.looked_at l.packets l.loads.items;
}
