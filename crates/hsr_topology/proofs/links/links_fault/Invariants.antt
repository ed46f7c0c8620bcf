use Rattle.std.proofs.Common.{◌≡◌, [], drop, take}
use Rattle.hsr_topology.specs.Links.{links_fault}
use Rattle.hsr_topology.proofs.links.links_fault.Given as goal

-- what is left answers for all
abbrev pub invariant-loop-i : goal.invariant-loop-i
invariant-loop-i l = links_fault l.places (take l.i l.links) (drop l.i l.links) ≡ links_fault l.places [] l.links
