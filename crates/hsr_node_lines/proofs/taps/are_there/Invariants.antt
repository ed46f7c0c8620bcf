use Rattle.std.proofs.Common.{◌≡◌, drop}
use Rattle.hsr_node_lines.specs.Taps.{are_there}
use Rattle.hsr_node_lines.proofs.taps.are_there.Given as goal

abbrev pub invariant-loop-said : goal.invariant-loop-said
invariant-loop-said l = are_there l.interfaces (drop l.said-index l.named) ≡ are_there l.interfaces l.named
