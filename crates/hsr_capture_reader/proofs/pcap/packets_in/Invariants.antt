use Rattle.std.proofs.Common.{◌≡◌, ◌+◌, ◌≤◌, length, drop}
use Rattle.hsr_capture_reader.specs.Pcap.{packets_past}
use Rattle.hsr_capture_reader.proofs.pcap.packets_in.Given as goal

-- what is left answers for all
abbrev pub invariant-loop-left : goal.invariant-loop-left
invariant-loop-left l = record {
  answers : packets_past 0 l.offset l.fcs l.format l.reading.read l.left ≡ packets_past 0 24 l.fcs l.format l.fn.reading.read (drop 24 l.fn.reading.file);
  file : l.reading.file ≡ l.fn.reading.file;
  behind : l.reading.reached ≤ l.offset;
  left : l.left ≡ drop l.offset l.reading.file;
  within : l.offset + length l.left ≡ length l.reading.file;
}

abbrev pub decreases-loop-left : goal.decreases-loop-left
decreases-loop-left l = length l.left
