-- The octets of packets are moved to the front of their file, one packet after the other.
use Rattle.std.specs.Prelude.{ℕ, zero, suc, ◌+◌, ◌≤◌, List, [], ◌∷◌}
use Rattle.hsr_capture_reader.specs.declared.rooms.Room.{Room}
use Rattle.hsr_capture_reader.specs.Rooms.{AreApart}

-- so many packets end before a place, up to which they were moved, and the others stand apart behind it
abbrev pub IsHalfMoved : ℕ → ℕ → ℕ → List Room → Type 0
IsHalfMoved len to zero rooms = AreApart len to rooms
IsHalfMoved len to (suc moved) [] = to ≤ len
IsHalfMoved len to (suc moved) (room ∷ rooms) = (room.at + room.kept ≤ to) × IsHalfMoved len to moved rooms

-- how many octets the packets have together
abbrev pub octets_of : List Room → ℕ
octets_of [] = 0
octets_of (room ∷ rooms) = room.kept + octets_of rooms
