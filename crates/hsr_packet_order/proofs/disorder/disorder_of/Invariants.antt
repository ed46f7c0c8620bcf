use Rattle.std.proofs.Common.{◌≡◌, ◌≤◌, drop}
use Rattle.hsr_packet_order.specs.Disorder.{disorder_from, disorder_of}
use Rattle.hsr_packet_order.proofs.disorder.disorder_of.Given as goal

-- what is left answers for all
abbrev pub invariant-loop-packet : goal.invariant-loop-packet
invariant-loop-packet l = record {
  answers : disorder_from l.disorder l.latest (drop l.packet-index l.packets) ≡ disorder_of l.packets;
  few : l.disorder.packets ≤ l.packet-index;
}
