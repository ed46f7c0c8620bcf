use Rattle.std.proofs.Common.{◌≡◌, drop}
use Rattle.hsr_topology.specs.Nodes.{has_twice}
use Rattle.hsr_topology.proofs.nodes.has_twice.Given as goal

-- what is left answers for all
abbrev pub invariant-loop-i : goal.invariant-loop-i
invariant-loop-i l = has_twice (drop l.i l.macs) ≡ has_twice l.macs
