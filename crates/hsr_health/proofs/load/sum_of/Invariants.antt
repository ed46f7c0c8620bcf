use Rattle.std.proofs.Common.{◌≡◌, ◌<◌, ◌^◌, map, take}
use Rattle.hsr_health.specs.Loads.{load_of, weighed_at}
use Rattle.hsr_health.proofs.load.sum_of.Given as goal

-- those so far are summed
abbrev pub invariant-loop-i : goal.invariant-loop-i
invariant-loop-i l = load_of (map (weighed_at l.packets) l.own) < 2 ^ 128 → l.sum ≡ load_of (take l.i (map (weighed_at l.packets) l.own))
