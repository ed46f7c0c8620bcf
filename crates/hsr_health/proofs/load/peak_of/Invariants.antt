use Rattle.std.proofs.Common.{◌≡◌, ◌<◌, ◌≤◌, ◌^◌, drop, length, map, max, take}
use Rattle.hsr_health.specs.Loads.{load_of, peak_of, weighed_at}
use Rattle.hsr_health.proofs.Loading.{AreNear}
use Rattle.hsr_health.proofs.load.peak_of.Given as goal

-- the peak so far and that of the windows that are left are that of all
abbrev pub invariant-loop-i : goal.invariant-loop-i
invariant-loop-i l = record {
  behind : l.i ≤ l.summed.end;
  within : l.summed.end ≤ length l.own;
  near : AreNear (map (weighed_at l.packets) l.own) l.i l.summed.end l.width;
  summed : load_of (map (weighed_at l.packets) l.own) < 2 ^ 128 → l.summed.bits ≡ load_of (take l.summed.end (map (weighed_at l.packets) l.own));
  before : load_of (map (weighed_at l.packets) l.own) < 2 ^ 128 → l.before ≡ load_of (take l.i (map (weighed_at l.packets) l.own));
  peak : load_of (map (weighed_at l.packets) l.own) < 2 ^ 128
      → max l.peak (peak_of l.width (drop l.i (map (weighed_at l.packets) l.own))) ≡ peak_of l.width (map (weighed_at l.packets) l.own);
}
