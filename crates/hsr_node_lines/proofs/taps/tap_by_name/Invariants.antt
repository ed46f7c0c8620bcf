use Rattle.std.proofs.Common.{◌≡◌, drop}
use Rattle.hsr_node_lines.specs.Taps.{tap_by_name}
use Rattle.hsr_node_lines.proofs.taps.tap_by_name.Given as goal

abbrev pub invariant-loop-said : goal.invariant-loop-said
invariant-loop-said l = tap_by_name l.name (drop l.said-index l.named) ≡ tap_by_name l.name l.named
