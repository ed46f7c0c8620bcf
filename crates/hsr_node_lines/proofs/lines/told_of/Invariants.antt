use Rattle.std.proofs.Common.{◌≡◌, drop}
use Rattle.hsr_node_lines.specs.Lines.{nothing_told, told_from}
use Rattle.hsr_node_lines.proofs.lines.told_of.Given as goal

-- what is left answers for all
abbrev pub invariant-loop-packet : goal.invariant-loop-packet
invariant-loop-packet l = told_from l.scene l.told (drop l.packet-index l.packets) ≡ told_from l.scene nothing_told l.packets
