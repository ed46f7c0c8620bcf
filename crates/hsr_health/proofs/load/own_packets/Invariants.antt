use Rattle.std.proofs.Common.{◌≡◌, map, take}
use Rattle.hsr_health.specs.Loads.{own_packets, weighed_at}
use Rattle.hsr_health.proofs.load.own_packets.Given as goal

-- the packets so far
abbrev pub invariant-loop-k : goal.invariant-loop-k
invariant-loop-k l = map (weighed_at l.packets) l.own.items ≡ own_packets l.interface (take l.k l.packets)
