use Rattle.hsr_health.specs.Kinds.{AreVlanKeys}
use Rattle.hsr_health.proofs.kinds.vlan_keys.Given as goal

-- those of the copies so far
abbrev pub invariant-loop-i : goal.invariant-loop-i
invariant-loop-i l = AreVlanKeys l.copies l.i l.keys.items
