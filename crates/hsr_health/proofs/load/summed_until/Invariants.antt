use Rattle.std.proofs.Common.{◌≡◌, ℕ, ◌-◌, ◌<◌, ◌≤◌, ◌^◌, Some, map, take}
use Rattle.std.specs.Prelude.{slice_get}
use Rattle.hsr_health.specs.Loads.{load_of, weighed_at}
use Rattle.hsr_health.specs.declared.load.Weighed.{Weighed}
use Rattle.hsr_health.proofs.load.summed_until.Given as goal

-- those so far are near, and summed
abbrev pub invariant-loop-k : goal.invariant-loop-k
invariant-loop-k l = record {
  near : (j : ℕ) (w : Weighed) → l.fn.before.end ≤ j → j < l.k → slice_get (map (weighed_at l.packets) l.own) j ≡ Some w → w.at - l.at < l.width;
  bits : load_of (map (weighed_at l.packets) l.own) < 2 ^ 128 → l.fn.before.bits ≡ load_of (take l.fn.before.end (map (weighed_at l.packets) l.own))
      → l.bits ≡ load_of (take l.k (map (weighed_at l.packets) l.own));
}
