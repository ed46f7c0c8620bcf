use Rattle.std.proofs.Common.{◌≡◌, ◌++◌, drop}
use Rattle.hsr_plan_network.specs.Links.{ring_links}
use Rattle.hsr_plan_network.proofs.links.ring_links.Given as goal

abbrev pub invariant-loop-number : goal.invariant-loop-number
invariant-loop-number l = l.links.items ++ ring_links l.rings l.names l.number (drop l.number l.rings) ≡ ring_links l.rings l.names 0 l.rings
