use Rattle.std.proofs.Common.{◌≡◌, drop}
use Rattle.hsr_node_lines.specs.Taps.{is_there}
use Rattle.hsr_node_lines.proofs.taps.is_there.Given as goal

abbrev pub invariant-loop-interface : goal.invariant-loop-interface
invariant-loop-interface l = record {
  answers : is_there l.name l.i (drop l.interface-index l.interfaces) ≡ is_there l.name 0 l.interfaces;
  number : l.i ≡ l.interface-index;
}
