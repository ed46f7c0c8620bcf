-- What a capture shows of a device: the packets that passed one of its ends, in the order of time, and which way.
use Rattle.std.specs.Prelude.{ℕ, ◌+◌, ◌-◌, ◌*◌, ◌/◌, ◌==◌, ◌&&◌, min, max, nat_le, Bool, List, [], ◌∷◌, ◌++◌, length, map, replicate, slice_get, Option, Some, None, Result, Ok, if◌then◌else◌}
use Rattle.std.specs.List.{count_by, range_with_len}
use Rattle.hsr_frame.specs.Layout.{max_frame}
use Rattle.hsr_toml.specs.Fallible.{◌>>=◌}
use Rattle.hsr_capture_reader.specs.Fields.{InterfaceFields, PacketFields}
use Rattle.hsr_tap_device.specs.Device.{DeviceFields}
use Rattle.hsr_tap_device.specs.declared.device.Tap.{Tap}
use Rattle.hsr_tap_device.specs.declared.device.Times.{Times}
use Rattle.hsr_playback.specs.declared.passage.Heading.{Heading}
use Rattle.hsr_playback.specs.declared.passage.Passage.{Passage}
use Rattle.hsr_tap_passages.specs.Headings.{heading_by}
use Rattle.hsr_tap_passages.specs.Interfaces.{interface_taps}
use Rattle.hsr_tap_passages.specs.declared.fault.PassageFault.{PassageFault}
use Rattle.hsr_tap_passages.specs.declared.passages.Shown.{Shown}

-- ---- from when to when

abbrev pub first_moment : Option PacketFields → ℕ
first_moment None = 0
first_moment (Some p) = p.moment

-- the first packet's moment
abbrev pub start_of : List PacketFields → ℕ
start_of packets = first_moment (slice_get packets 0)

abbrev pub later_of : ℕ → Option PacketFields → ℕ
later_of told None = 0
later_of told (Some p) = max p.moment told

-- the last packet's moment, or a later end that the capture tells
abbrev pub last_of : ℕ → List PacketFields → ℕ
last_of told packets = later_of told (slice_get packets (length packets - 1))

abbrev pub capped : ℕ → ℕ
capped n = min n 18446744073709551615

-- the last moment that counts, in nanoseconds since the capture began
abbrev pub end_by : Option ℕ → ℕ → ℕ
end_by None length = length
end_by (Some until) length = min length (capped (capped (until * 1000) + 999))

-- a moment counts
abbrev pub counts : Times → ℕ → ℕ → Bool
counts times end moment = nat_le times.from (moment / 1000) && nat_le moment end

-- ---- one packet

-- a packet that is longer than a frame stays longer
abbrev pub kept_length : PacketFields → ℕ
kept_length p = max (min p.length (max (length p.octets) (max_frame + 1))) (length p.octets)

-- zeros stand for octets that weren't captured
abbrev pub octets_of : PacketFields → List ℕ
octets_of p = p.octets ++ replicate (kept_length p - length p.octets) 0

abbrev pub passed : Tap → ℕ → PacketFields → Heading → Passage
passed tap start p heading = record {
  moment = p.moment - start;
  end = tap.end;
  heading = heading;
  packet = p.number;
  octets = octets_of p;
  captured = length p.octets;
}

abbrev pub passage_of : Tap → ℕ → PacketFields → Result Passage PassageFault
passage_of tap start p = heading_by tap.passing tap.end p >>= λ heading. Ok (passed tap start p heading)

-- ---- all packets

abbrev pub known_tap : Option (Option Tap) → Option Tap
known_tap None = None
known_tap (Some tap) = tap

-- what the interface of a packet is
abbrev pub tap_in : List (Option Tap) → ℕ → Option Tap
tap_in taps i = known_tap (slice_get taps i)

abbrev pub with_tap : List Passage → Option Tap → ℕ → PacketFields → Result (List Passage) PassageFault
with_tap seen None start p = Ok seen
with_tap seen (Some tap) start p = passage_of tap start p >>= λ passage. Ok (seen ++ passage ∷ [])

-- the passages so far, with that of one more packet, if it passed an end and counts
abbrev pub with_packet : Times → ℕ → ℕ → List (Option Tap) → List Passage → PacketFields → Result (List Passage) PassageFault
with_packet times start end taps seen p =
    if counts times end (p.moment - start) then with_tap seen (tap_in taps p.interface) start p else Ok seen

abbrev pub passages_from : Times → ℕ → ℕ → List (Option Tap) → List Passage → List PacketFields → Result (List Passage) PassageFault
passages_from times start end taps seen [] = Ok seen
passages_from times start end taps seen (p ∷ ps) =
    with_packet times start end taps seen p >>= λ next. passages_from times start end taps next ps

-- ---- a whole capture

-- how many packets of each interface count
abbrev pub count_at : Times → ℕ → ℕ → List PacketFields → ℕ → ℕ
count_at times start end packets i = count_by (λ p. (p.interface == i) && counts times end (p.moment - start)) packets

unfoldable pub passages_of : Times → ℕ → ℕ → List (Option Tap) → List PacketFields → Result (List Passage) PassageFault
passages_of times start end taps packets = passages_from times start end taps [] packets

-- of each of so many interfaces
abbrev pub counts_of : Times → ℕ → ℕ → List PacketFields → ℕ → List ℕ
counts_of times start end packets interfaces = map (count_at times start end packets) (range_with_len 0 interfaces)

-- what a capture shows: what each interface is, how many of its packets count, the passages, how long the capture is, and the last moment that
-- counts
pub record ShownFields : Type 0 where
  pub interfaces : List (Option Tap)
  pub counts : List ℕ
  pub passages : List Passage
  pub length : ℕ
  pub end : ℕ

-- without where it lies in memory
abbrev pub shown_view : Shown → ShownFields
shown_view s = record { interfaces = s.interfaces.items; counts = s.counts.items; passages = s.passages.items; length = s.length; end = s.end }

abbrev pub shown_by : Times → ℕ → ℕ → ℕ → List (Option Tap) → List PacketFields → ℕ → Result ShownFields PassageFault
shown_by times start long end taps packets interfaces =
    passages_of times start end taps packets >>= λ passages. Ok (record {
      interfaces = taps;
      counts = counts_of times start end packets interfaces;
      passages = passages;
      length = long;
      end = end;
    })

abbrev pub shown_until : Times → ℕ → ℕ → List (Option Tap) → List PacketFields → ℕ → Result ShownFields PassageFault
shown_until times start long taps packets interfaces = shown_by times start long (end_by times.until long) taps packets interfaces

unfoldable pub shown_of : DeviceFields → List InterfaceFields → List PacketFields → ℕ → Result ShownFields PassageFault
shown_of device interfaces packets told =
    interface_taps device.interfaces interfaces
    >>= λ taps. shown_until device.times (start_of packets) (last_of told packets - start_of packets) taps packets (length interfaces)
