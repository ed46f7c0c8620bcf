use Rattle.std.proofs.Common.{◌≡◌, [], drop}
use Rattle.std.specs.Prelude.{option_map}
use Rattle.hsr_node_lines.specs.Taps.{taps_from}
use Rattle.hsr_node_lines.proofs.taps.taps_from.Given as goal

-- what is left answers for all
abbrev pub invariant-loop-interface : goal.invariant-loop-interface
invariant-loop-interface l =
    taps_from (option_map (λ s. s.now) l.named) l.taps.items (drop l.interface-index l.interfaces) ≡ taps_from (option_map (λ s. s.now) l.named) [] l.interfaces
