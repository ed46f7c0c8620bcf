use Rattle.std.proofs.Common.{◌≡◌, drop}
use Rattle.hsr_topology.specs.Links.{link_from}
use Rattle.hsr_topology.proofs.links.link_at.Given as goal

-- what is left answers for all
abbrev pub invariant-loop-i : goal.invariant-loop-i
invariant-loop-i l = link_from l.i (drop l.i l.links) l.end ≡ link_from 0 l.links l.end
