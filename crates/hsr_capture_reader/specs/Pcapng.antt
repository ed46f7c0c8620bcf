-- What the blocks of a pcapng file tell (draft-ietf-opsawg-pcapng, section 4). Each definition has a block's faults in order, and then
-- what was read with it.
--     section_told      a section header (section 4.1)
--     interface_told    the description of an interface (section 4.2)
--     enhanced_told     an enhanced packet (section 4.3)
--     simple_told       a simple packet (section 4.4)
--     statistics_told   the statistics of an interface (section 4.6)
--     obsolete_told     an obsolete packet (appendix A)
--     told              any block: what isn't known is passed over
use Rattle.std.specs.Prelude.{ℕ, ◌+◌, ◌-◌, ◌*◌, ◌/◌, ◌%◌, ◌==◌, min, max, not, nat_lt, nat_le, Bool, if◌then◌else◌, List, [], ◌∷◌, length, take, drop, slice_get, slice_set, slice_index_or, Option, Some, None, unwrap_or, Result, Ok, Err}
use Rattle.hsr_frame.specs.Cases.{first_of}
use Rattle.hsr_capture_reader.specs.declared.fault.CaptureFault.{CaptureFault}
use Rattle.hsr_capture_reader.specs.declared.fault.CaptureFault.TheVariants as fault
use Rattle.hsr_capture_reader.specs.declared.fault.Refusal.{Refusal}
use Rattle.hsr_capture_reader.specs.declared.clock.Clock.{Clock}
use Rattle.hsr_capture_reader.specs.declared.fields.Losses.{Losses}
use Rattle.hsr_capture_reader.specs.declared.fields.Way.{Way}
use Rattle.hsr_capture_reader.specs.declared.fields.Way.TheVariants.{In, Out}
use Rattle.hsr_capture_reader.specs.declared.numbers.ByteOrder.{ByteOrder}
use Rattle.hsr_capture_reader.specs.declared.numbers.ByteOrder.TheVariants.{Little}
use Rattle.hsr_capture_reader.specs.Numbers.{number16, number32}
use Rattle.hsr_capture_reader.specs.Clock.{moment_of}
use Rattle.hsr_capture_reader.specs.Fields.{InterfaceFields, PacketFields, add_dropped, capped_sum, set_dropped}
use Rattle.hsr_capture_reader.specs.Options.{option_of, octet_option, wide_option}
use Rattle.hsr_capture_reader.specs.Blocks.{BlockFields, Blocks, blocks_past}
use Rattle.hsr_capture_reader.specs.Reading.{ReadingFields, nothing_read, with_interface, with_packet, ◌>>=◌}

-- the most interfaces and packets of a capture
abbrev pub most_interfaces : ℕ
most_interfaces = 64

abbrev pub most_packets : ℕ
most_packets = 1048576

abbrev pub refused : {A : Type 0} → ℕ → CaptureFault → Result A Refusal
refused offset f = Err (record { offset = offset; fault = f })

-- ---- sections and interfaces

unfoldable pub section_told : ReadingFields → BlockFields → Result ReadingFields Refusal
section_told r b = first_of
    ((nat_lt (length b.body) 16, refused b.offset fault.Block)
    ∷ (not (number16 b.order b.body 4 == 1), refused b.offset fault.Version)
    ∷ [])
    (Ok (record r { earlier = length r.interfaces }))

-- its if_name, or else its if_description
abbrev pub name_in : ByteOrder → List ℕ → List ℕ
name_in order options = let name = unwrap_or (option_of order 2 options) [] in
    if length name == 0 then unwrap_or (option_of order 3 options) [] else name

-- microseconds with no offset, where if_tsresol and if_tsoffset don't say it
abbrev pub clock_in : ByteOrder → List ℕ → Clock
clock_in order options = record { resolution = unwrap_or (octet_option order 9 options) 6; offset = unwrap_or (wide_option order 14 options) 0 }

-- with the frame check sequence that was given, where if_fcslen doesn't say it
unfoldable pub interface_in : ℕ → BlockFields → InterfaceFields
interface_in fcs b = record {
  name = name_in b.order (drop 8 b.body);
  link = number16 b.order b.body 0;
  snap = number32 b.order b.body 4;
  clock = clock_in b.order (drop 8 b.body);
  fcs = unwrap_or (octet_option b.order 13 (drop 8 b.body)) fcs;
}

unfoldable pub interface_told : ℕ → ReadingFields → BlockFields → Result ReadingFields Refusal
interface_told fcs r b = first_of
    ((nat_lt (length b.body) 8, refused b.offset fault.Block)
    ∷ (nat_le most_interfaces (length r.interfaces), refused 0 fault.Interfaces)
    ∷ [])
    (Ok (with_interface r (interface_in fcs b)))

-- ---- packets

-- the direction that a packet's flags say
abbrev pub way_in : ℕ → Option Way
way_in flags = first_of ((flags % 4 == 1, Some In) ∷ (flags % 4 == 2, Some Out) ∷ []) None

-- how many octets of it are its frame check sequence, as its flags say or else its interface does
abbrev pub fcs_in : ℕ → ℕ → ℕ
fcs_in flags fcs = if flags / 32 % 16 == 0 then fcs else flags / 32 % 16

-- a packet as it was captured: its interface, its moment, its direction, how many octets are its frame check sequence, its octets, and
-- how many it had on the wire
pub record CapturedFields : Type 0 where
  pub interface : ℕ
  pub moment : ℕ
  pub way : Option Way
  pub fcs : ℕ
  pub octets : List ℕ
  pub wire : ℕ

-- how many octets it had without its frame check sequence; no fewer can have been there than were captured
abbrev pub length_of : CapturedFields → ℕ
length_of c = max c.wire (length c.octets) - c.fcs

-- the next packet
abbrev pub packet_of : List PacketFields → CapturedFields → PacketFields
packet_of packets c = record {
  moment = c.moment;
  octets = take (length_of c) c.octets;
  length = length_of c;
  number = length packets + 1;
  interface = c.interface;
  way = c.way;
}

unfoldable pub pushed : ReadingFields → ℕ → CapturedFields → Result ReadingFields Refusal
pushed r offset c = if nat_le most_packets (length r.packets) then refused offset fault.Packets else Ok (with_packet r (packet_of r.packets c))

-- ---- packets with a stamp

-- a stamp in two halves, the high one first in either byte order
abbrev pub stamp_at : ByteOrder → List ℕ → ℕ → ℕ
stamp_at order octets at = number32 order octets at * 4294967296 + number32 order octets (at + 4)

-- a packet's flags (epb_flags)
abbrev pub flags_of : ByteOrder → Option (List ℕ) → ℕ
flags_of order None = 0
flags_of order (Some value) = if nat_lt (length value) 4 then 0 else number32 order value 0

abbrev pub flags_in : ByteOrder → List ℕ → ℕ
flags_in order options = flags_of order (option_of order 2 options)

abbrev pub no_losses : Losses
no_losses = record { by_packets = None; by_statistics = None }

abbrev pub losses_at : ReadingFields → ℕ → Losses
losses_at r i = slice_index_or r.losses i no_losses

-- how many octets of a packet stand in its block
abbrev pub kept_in : BlockFields → ℕ
kept_in b = number32 b.order b.body 12

-- the options of its block, behind the octets and their padding
abbrev pub options_in : BlockFields → List ℕ
options_in b = drop ((kept_in b + 3) / 4 * 4) (drop 20 b.body)

-- the packet, at this interface of the capture
unfoldable pub captured_in : BlockFields → ℕ → InterfaceFields → CapturedFields
captured_in b i interface = record {
  interface = i;
  moment = moment_of interface.clock (stamp_at b.order b.body 4);
  way = way_in (flags_in b.order (options_in b));
  fcs = fcs_in (flags_in b.order (options_in b)) interface.fcs;
  octets = take (kept_in b) (drop 20 b.body);
  wire = number32 b.order b.body 16;
}

-- what was read, with the packet's stamp and with what it says was lost
unfoldable pub noted : ReadingFields → BlockFields → ℕ → ℕ → ReadingFields
noted r b i moment = record r {
  stamp = moment;
  losses = slice_set r.losses i (add_dropped (losses_at r i) (wide_option b.order 4 (options_in b)));
}

unfoldable pub captured_told : ReadingFields → BlockFields → ℕ → CapturedFields → Result ReadingFields Refusal
captured_told r b i captured = pushed (noted r b i captured.moment) b.offset captured

-- the packet of a block, of the interface with this number in the capture
abbrev pub captured_at : BlockFields → ℕ → Option InterfaceFields → Result CapturedFields Refusal
captured_at b i None = refused b.offset fault.Interface
captured_at b i (Some interface) = if nat_lt (length b.body - 20) (kept_in b) then refused b.offset fault.Packet else Ok (captured_in b i interface)

unfoldable pub captured_there : List InterfaceFields → BlockFields → ℕ → Result CapturedFields Refusal
captured_there interfaces b i = captured_at b i (slice_get interfaces i)

-- a packet of the interface with this number in its section
unfoldable pub stamped_told : ReadingFields → BlockFields → ℕ → Result ReadingFields Refusal
stamped_told r b number = captured_there r.interfaces b (r.earlier + number) >>= captured_told r b (r.earlier + number)

unfoldable pub enhanced_told : ReadingFields → BlockFields → Result ReadingFields Refusal
enhanced_told r b = if nat_lt (length b.body) 20 then refused b.offset fault.Block else stamped_told r b (number32 b.order b.body 0)

unfoldable pub obsolete_told : ReadingFields → BlockFields → Result ReadingFields Refusal
obsolete_told r b = if nat_lt (length b.body) 20 then refused b.offset fault.Block else stamped_told r b (number16 b.order b.body 0)

-- ---- packets without a stamp

-- how many octets of a packet were captured
abbrev pub snapped : ℕ → ℕ → ℕ
snapped snap wire = if snap == 0 then wire else min snap wire

-- a packet of the section's first interface, with the latest stamp that was read
abbrev pub simple_in : ℕ → ℕ → BlockFields → InterfaceFields → CapturedFields
simple_in earlier stamp b interface = record {
  interface = earlier;
  moment = stamp;
  way = None;
  fcs = interface.fcs;
  octets = take (snapped interface.snap (number32 b.order b.body 0)) (drop 4 b.body);
  wire = number32 b.order b.body 0;
}

abbrev pub simple_at : ReadingFields → BlockFields → Option InterfaceFields → Result ReadingFields Refusal
simple_at r b None = refused b.offset fault.Interface
simple_at r b (Some interface) = pushed r b.offset (simple_in r.earlier r.stamp b interface)

unfoldable pub simple_told : ReadingFields → BlockFields → Result ReadingFields Refusal
simple_told r b = if nat_lt (length b.body) 4 then refused b.offset fault.Block else simple_at r b (slice_get r.interfaces r.earlier)

-- ---- statistics

-- what was lost at an interface (isb_ifdrop) and behind it (isb_osdrop), together
abbrev pub sum_of : Option ℕ → Option ℕ → Option ℕ
sum_of None b = b
sum_of (Some a) None = Some a
sum_of (Some a) (Some b) = Some (capped_sum a b)

-- when the capture ended (isb_endtime)
abbrev pub end_of : ByteOrder → Clock → Option (List ℕ) → ℕ
end_of order clock None = 0
end_of order clock (Some value) = if length value == 8 then moment_of clock (stamp_at order value 0) else 0

unfoldable pub counted : ReadingFields → BlockFields → ℕ → Clock → ReadingFields
counted r b i clock = let options = drop 12 b.body in record r {
  losses = slice_set r.losses i (set_dropped (losses_at r i) (sum_of (wide_option b.order 5 options) (wide_option b.order 7 options)));
  end = max r.end (end_of b.order clock (option_of b.order 3 options));
}

-- statistics of an interface that isn't there are passed over
abbrev pub counted_at : ReadingFields → BlockFields → ℕ → Option InterfaceFields → ReadingFields
counted_at r b i None = r
counted_at r b i (Some interface) = counted r b i interface.clock

unfoldable pub statistics_told : ReadingFields → BlockFields → Result ReadingFields Refusal
statistics_told r b = if nat_lt (length b.body) 12 then refused b.offset fault.Block else
    Ok (counted_at r b (r.earlier + number32 b.order b.body 0) (slice_get r.interfaces (r.earlier + number32 b.order b.body 0)))

-- ---- all blocks

unfoldable pub told : ℕ → ReadingFields → BlockFields → Result ReadingFields Refusal
told fcs r b = first_of
    ((b.block_type == 0x0A0D0D0A, section_told r b)
    ∷ (b.block_type == 1, interface_told fcs r b)
    ∷ (b.block_type == 2, obsolete_told r b)
    ∷ (b.block_type == 3, simple_told r b)
    ∷ (b.block_type == 5, statistics_told r b)
    ∷ (b.block_type == 6, enhanced_told r b)
    ∷ [])
    (Ok r)

-- what blocks tell, one after the other, to their end
abbrev pub read_on : ℕ → ReadingFields → List BlockFields → Result Bool Refusal → Result ReadingFields Refusal
read_on fcs r [] (Ok is_short) = Ok (record r { is_short = is_short })
read_on fcs r [] (Err refusal) = Err refusal
read_on fcs r (b ∷ bs) is_short = told fcs r b >>= λ next. read_on fcs next bs is_short

-- the rest of a file, behind what was read
abbrev pub read_blocks : ℕ → ReadingFields → Blocks → Result ReadingFields Refusal
read_blocks fcs r rest = read_on fcs r rest.blocks rest.is_short

unfoldable pub pcapng_of : ℕ → List ℕ → Result ReadingFields Refusal
pcapng_of fcs octets = read_blocks fcs nothing_read (blocks_past 0 0 Little octets)
