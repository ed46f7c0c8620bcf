use Rattle.std.proofs.Common.{◌≡◌, ◌++◌, map, take}
use Rattle.hsr_plan_network.specs.Links.{ring_link}
use Rattle.hsr_plan_network.proofs.links.add_ring.Given as goal

abbrev pub invariant-loop-name : goal.invariant-loop-name
invariant-loop-name l = l.links.items ≡ l.initial.links.items ++ map (ring_link l.rings l.names l.number l.ring) (take l.name-index l.ring)
