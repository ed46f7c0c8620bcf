-- A pcap file (draft-ietf-opsawg-pcap): a header of 24 octets, and packets, each behind a header of 16.
--     format_of      what its magic number says: the byte order, and whether fractions of a second are nanoseconds
--     kept_at        how many octets of the packet that stands first were captured
--     packets_past   what its packets tell
use Rattle.std.specs.Prelude.{ℕ, zero, suc, ◌+◌, ◌*◌, ◌/◌, ◌%◌, ◌==◌, nat_lt, true, false, if◌then◌else◌, List, [], ◌∷◌, length, take, drop, Option, Some, None, Result, Ok, Err}
use Rattle.hsr_frame.specs.Cases.{first_of}
use Rattle.hsr_capture_reader.specs.declared.fault.CaptureFault.{CaptureFault}
use Rattle.hsr_capture_reader.specs.declared.fault.CaptureFault.TheVariants as fault
use Rattle.hsr_capture_reader.specs.declared.fault.Refusal.{Refusal}
use Rattle.hsr_capture_reader.specs.declared.numbers.ByteOrder.{ByteOrder}
use Rattle.hsr_capture_reader.specs.declared.numbers.ByteOrder.TheVariants.{Little, Big}
use Rattle.hsr_capture_reader.specs.declared.pcap.Format.{Format}
use Rattle.hsr_capture_reader.specs.Numbers.{number32}
use Rattle.hsr_capture_reader.specs.Fields.{InterfaceFields}
use Rattle.hsr_capture_reader.specs.Pcapng.{CapturedFields, pushed, refused}
use Rattle.hsr_capture_reader.specs.Reading.{ReadingFields, nothing_read, with_interface, ◌>>=◌}

-- by the first four octets
abbrev pub format_by : ℕ → Option Format
format_by magic = first_of
    ((magic == 0xA1B2C3D4, Some (record { order = Little; is_nano = false }))
    ∷ (magic == 0xD4C3B2A1, Some (record { order = Big; is_nano = false }))
    ∷ (magic == 0xA1B23C4D, Some (record { order = Little; is_nano = true }))
    ∷ (magic == 0x4D3CB2A1, Some (record { order = Big; is_nano = true }))
    ∷ [])
    None

abbrev pub format_of : List ℕ → Option Format
format_of octets = if nat_lt (length octets) 4 then None else format_by (number32 Little octets 0)

-- its one interface: a bit of the link type's word says whether it has the length of frame check sequences, in halves
unfoldable pub interface_of : ℕ → Format → List ℕ → InterfaceFields
interface_of fcs format octets = let link = number32 format.order octets 20 in record {
  name = [];
  link = link % 65536;
  snap = number32 format.order octets 16;
  clock = record { resolution = 9; offset = 0 };
  fcs = if link / 67108864 % 2 == 1 then link / 268435456 * 2 else fcs;
}

-- how many nanoseconds a fraction of a second counts
abbrev pub fraction_of : Format → ℕ
fraction_of format = if format.is_nano then 1 else 1000

-- ---- packets

-- nothing where the file breaks off before its end
unfoldable pub kept_at : ByteOrder → List ℕ → Result (Option ℕ) CaptureFault
kept_at order octets = first_of
    ((nat_lt (length octets) 16, Ok None)
    ∷ (nat_lt 262144 (number32 order octets 8), Err fault.Packet)
    ∷ (nat_lt (length octets) (16 + number32 order octets 8), Ok None)
    ∷ [])
    (Ok (Some (number32 order octets 8)))

unfoldable pub captured_at : ℕ → Format → List ℕ → CapturedFields
captured_at fcs format octets = record {
  interface = 0;
  moment = number32 format.order octets 0 * 1000000000 + number32 format.order octets 4 * fraction_of format;
  way = None;
  fcs = fcs;
  octets = take (number32 format.order octets 8) (drop 16 octets);
  wire = number32 format.order octets 12;
}

-- a packet, if one stands there, and then what stands behind it
abbrev pub then_on : ReadingFields → ℕ → CapturedFields → (ReadingFields → Result ReadingFields Refusal) → Result (Option ℕ) CaptureFault → Result ReadingFields Refusal
then_on r offset captured behind (Err f) = refused offset f
then_on r offset captured behind (Ok None) = Ok (record r { is_short = true })
then_on r offset captured behind (Ok (Some kept)) = pushed r offset captured >>= behind

-- The packets from an offset on. So many octets of a packet, which was told, are stepped over first.
abbrev pub packets_past : ℕ → ℕ → ℕ → Format → ReadingFields → List ℕ → Result ReadingFields Refusal
packets_past n offset fcs format r [] = Ok r
packets_past (suc n) offset fcs format r (octet ∷ octets) = packets_past n (offset + 1) fcs format r octets
packets_past zero offset fcs format r (octet ∷ octets) =
    then_on r offset (captured_at fcs format (octet ∷ octets))
    (λ next. packets_past (15 + number32 format.order (octet ∷ octets) 8) (offset + 1) fcs format next octets)
    (kept_at format.order (octet ∷ octets))

unfoldable pub pcap_of : ℕ → Format → List ℕ → Result ReadingFields Refusal
pcap_of fcs format octets = if nat_lt (length octets) 24 then refused 0 fault.Header else
    packets_past 0 24 (interface_of fcs format octets).fcs format (with_interface nothing_read (interface_of fcs format octets)) (drop 24 octets)
