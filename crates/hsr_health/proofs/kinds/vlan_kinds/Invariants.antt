use Rattle.std.proofs.Common.{◌≡◌, map, take}
use Rattle.hsr_health.specs.Kinds.{vlan_by}
use Rattle.hsr_health.proofs.kinds.vlan_kinds.Given as goal

abbrev pub invariant-loop-own : goal.invariant-loop-own
invariant-loop-own l = l.kinds.items ≡ map vlan_by (take l.own-index l.counts)
