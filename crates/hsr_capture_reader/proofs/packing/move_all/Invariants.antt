use Rattle.std.proofs.Common.{◌≡◌, ◌+◌, drop, length}
use Rattle.hsr_capture_reader.specs.Packing.{IsHalfMoved, octets_of}
use Rattle.hsr_capture_reader.specs.Rooms.{packets_by}
use Rattle.hsr_capture_reader.proofs.packing.move_all.Given as goal

abbrev pub invariant-loop-i : goal.invariant-loop-i
invariant-loop-i l = record {
  half : IsHalfMoved (length l.octets.items) l.to l.i l.rooms.items;
  packets : packets_by l.octets.items 0 l.rooms.items ≡ packets_by l.fn.octets.items 0 l.fn.rooms.items;
  end : l.to + octets_of (drop l.i l.rooms.items) ≡ octets_of l.fn.rooms.items;
  many : length l.rooms.items ≡ length l.fn.rooms.items;
}
