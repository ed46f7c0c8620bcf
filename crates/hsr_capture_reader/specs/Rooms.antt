-- A packet while its file is read: a room of few octets, which says where in the file its own octets stand.
--     StandAt      octets stand in a file, from a place on
--     packets_by   the packets that rooms tell of a file
--     AreApart     each packet's octets stand behind those of the one before
--     Held         what was read of a file, beside it
use Rattle.std.specs.Prelude.{◌≡◌, ℕ, suc, ◌+◌, ◌≤◌, List, [], ◌∷◌, length, take, drop, Result, Ok, Err}
use Rattle.hsr_capture_reader.specs.declared.fault.ReadFault.{ReadFault}
use Rattle.hsr_capture_reader.specs.declared.fault.Refusal.{Refusal}
use Rattle.hsr_capture_reader.specs.declared.rooms.Room.{Room}
use Rattle.hsr_capture_reader.specs.Fields.{PacketFields}
use Rattle.hsr_capture_reader.specs.Reading.{Fails, ReadingFields}

abbrev pub StandAt : List ℕ → ℕ → List ℕ → Type 0
StandAt file at octets = (at + length octets ≤ length file) × (octets ≡ take (length octets) (drop at file))

-- the packet of a room, behind so many others
abbrev pub packet_by : List ℕ → ℕ → Room → PacketFields
packet_by file before room = record {
  moment = room.moment;
  octets = take room.kept (drop room.at file);
  length = room.length;
  number = before + 1;
  interface = room.interface;
  way = room.way;
}

abbrev pub packets_by : List ℕ → ℕ → List Room → List PacketFields
packets_by file before [] = []
packets_by file before (room ∷ rooms) = packet_by file before room ∷ packets_by file (suc before) rooms

-- the octets of the first packet stand behind a place, those of each other behind those of the one before, and all within a length
abbrev pub AreApart : ℕ → ℕ → List Room → Type 0
AreApart len from [] = from ≤ len
AreApart len from (room ∷ rooms) = (from ≤ room.at) × AreApart len (room.at + room.kept) rooms

-- where the octets of the last packet end, or that place where there is none
abbrev pub end_from : ℕ → List Room → ℕ
end_from from [] = from
end_from from (room ∷ rooms) = end_from (room.at + room.kept) rooms

-- with where the octets of the last packet end
pub record Held : Type 0 where
  pub file : List ℕ
  pub read : ReadingFields
  pub reached : ℕ

-- what a function holds is what is read, unless room was refused
abbrev pub Reads : Result Held ReadFault → Result ReadingFields Refusal → Type 0
Reads (Ok held) read = read ≡ Ok held.read
Reads (Err fault) read = Fails fault read
