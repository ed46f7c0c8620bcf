use Rattle.std.proofs.Common.{◌≡◌, ◌++◌}
use Rattle.hsr_diagram.specs.Panels.{lone_below}
use Rattle.hsr_diagram.proofs.paneling.put_lone.Given as goal

abbrev pub invariant-loop-node : goal.invariant-loop-node
invariant-loop-node l = l.panels.items ≡ l.initial.panels.items ++ lone_below l.topology.links l.node
