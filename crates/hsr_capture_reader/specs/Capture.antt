-- A whole capture: what the octets of a file tell, in whichever format it is.
use Rattle.std.specs.Prelude.{ℕ, ◌==◌, ◌&&◌, Bool, false, nat_lt, List, [], ◌∷◌, length, Option, Some, None, Result, Ok}
use Rattle.hsr_frame.specs.Cases.{first_of}
use Rattle.hsr_capture_reader.specs.declared.fault.CaptureFault.TheVariants as fault
use Rattle.hsr_capture_reader.specs.declared.fault.Refusal.{Refusal}
use Rattle.hsr_capture_reader.specs.declared.fields.Losses.{Losses}
use Rattle.hsr_capture_reader.specs.declared.pcap.Format.{Format}
use Rattle.hsr_capture_reader.specs.Fields.{InterfaceFields, PacketFields}
use Rattle.hsr_capture_reader.specs.Blocks.{is_section}
use Rattle.hsr_capture_reader.specs.Reading.{ReadingFields, ◌>>=◌}
use Rattle.hsr_capture_reader.specs.Pcapng.{pcapng_of, refused}
use Rattle.hsr_capture_reader.specs.Pcap.{format_of, pcap_of}

-- the interfaces by number, what was lost at each, the packets as the file has them, the latest end that statistics say, and whether
-- the file breaks off
pub record CaptureFields : Type 0 where
  pub interfaces : List InterfaceFields
  pub losses : List Losses
  pub packets : List PacketFields
  pub end : ℕ
  pub is_short : Bool

abbrev pub capture_in : ReadingFields → Result CaptureFields Refusal
capture_in r = Ok (record { interfaces = r.interfaces; losses = r.losses; packets = r.packets; end = r.end; is_short = r.is_short })

-- the most octets of a file
abbrev pub most_octets : ℕ
most_octets = 268435456

-- a file that is packed (RFC 1952)
abbrev pub is_gzip : List ℕ → Bool
is_gzip (a ∷ b ∷ octets) = (a == 0x1F) && (b == 0x8B)
is_gzip octets = false

abbrev pub pcap_in : ℕ → List ℕ → Option Format → Result ReadingFields Refusal
pcap_in fcs octets None = refused 0 fault.Magic
pcap_in fcs octets (Some format) = pcap_of fcs format octets

-- what is read of a file
abbrev pub reading_of : ℕ → List ℕ → Result ReadingFields Refusal
reading_of fcs octets = first_of
    ((nat_lt most_octets (length octets), refused 0 fault.TooLarge)
    ∷ (is_gzip octets, refused 0 fault.Gzip)
    ∷ (is_section octets, pcapng_of fcs octets)
    ∷ [])
    (pcap_in fcs octets (format_of octets))

unfoldable pub capture_of : ℕ → List ℕ → Result CaptureFields Refusal
capture_of fcs octets = reading_of fcs octets >>= capture_in
