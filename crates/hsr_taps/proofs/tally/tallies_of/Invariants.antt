use Rattle.std.proofs.Common.{◌≡◌, length, take}
use Rattle.hsr_taps.specs.Tallies.{AreTallies}
use Rattle.hsr_taps.proofs.tally.tallies_of.Given as goal

-- the packets so far are counted
abbrev pub invariant-loop-packet : goal.invariant-loop-packet
invariant-loop-packet l = record {
  long : length l.tallies.items ≡ length l.looked_at;
  tallies : AreTallies l.looked_at (take l.packet-index l.packets) l.tallies.items;
}
