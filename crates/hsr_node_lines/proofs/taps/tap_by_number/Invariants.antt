use Rattle.std.proofs.Common.{◌≡◌, drop}
use Rattle.hsr_node_lines.specs.Taps.{tap_by_number}
use Rattle.hsr_node_lines.proofs.taps.tap_by_number.Given as goal

abbrev pub invariant-loop-said : goal.invariant-loop-said
invariant-loop-said l = tap_by_number l.i (drop l.said-index l.named) ≡ tap_by_number l.i l.named
