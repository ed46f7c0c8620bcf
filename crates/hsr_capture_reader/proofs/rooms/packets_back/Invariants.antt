use Rattle.std.proofs.Common.{◌≡◌, ◌++◌, ◌≤◌, length}
use Rattle.std.specs.Prelude.{reverse}
use Rattle.hsr_capture_reader.specs.Rooms.{packets_by}
use Rattle.hsr_capture_reader.proofs.rooms.packets_back.Given as goal

-- the packets of the rooms that are left stand in front of those that were made
abbrev pub invariant-loop-room : goal.invariant-loop-room
invariant-loop-room l = record {
  packets : packets_by l.file 0 l.left.items ++ reverse l.packets.items ≡ packets_by l.file 0 l.fn.rooms.items;
  many : length l.left.items ≤ 1048576;
}

abbrev pub decreases-loop-room : goal.decreases-loop-room
decreases-loop-room l = length l.left.items
