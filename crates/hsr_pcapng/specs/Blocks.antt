-- Blocks of the file format pcapng (draft-ietf-opsawg-pcapng), little endian.
--     block            any block (section 3.1)
--     option_of        an option (section 3.5)
--     section_header   the block that begins a section (section 4.1)
--     interface        the description of an interface (section 4.2)
--     packet           an enhanced packet (section 4.3)
use Rattle.std.specs.Prelude.{ℕ, ◌+◌, ◌-◌, ◌/◌, ◌%◌, ◌<◌, ◌^◌, List, [], ◌∷◌, ◌++◌, length, replicate}
use Rattle.std.specs.Int.{w16, w32, to_le_bytes}

-- ---- numbers and octets

abbrev pub number16 : ℕ → List ℕ
number16 n = to_le_bytes w16 n

abbrev pub number32 : ℕ → List ℕ
number32 n = to_le_bytes w32 n

-- zeros from this length up to a multiple of four
abbrev pub padding : ℕ → List ℕ
padding n = replicate ((4 - n % 4) % 4) 0

abbrev pub padded : List ℕ → List ℕ
padded octets = octets ++ padding (length octets)

-- ---- options

-- its code, the length of its value, and the value
unfoldable pub option_of : ℕ → List ℕ → List ℕ
option_of code value = number16 code ++ number16 (length value) ++ padded value

abbrev pub opt_endofopt : ℕ
opt_endofopt = 0

abbrev pub end_of_options : List ℕ
end_of_options = number16 opt_endofopt ++ number16 0

-- ---- any block

-- its type, its length, its body, and its length again
unfoldable pub block : ℕ → List ℕ → List ℕ
block block_type body = number32 block_type ++ number32 (length body + 12) ++ body ++ number32 (length body + 12)

-- ---- types of blocks (section 4) and codes of options (sections 3.5, 4.1 and 4.2)

abbrev pub section_header_type : ℕ
section_header_type = 0x0A0D0D0A

abbrev pub interface_type : ℕ
interface_type = 1

abbrev pub packet_type : ℕ
packet_type = 6

abbrev pub byte_order_magic : ℕ
byte_order_magic = 0x1A2B3C4D

abbrev pub major_version : ℕ
major_version = 1

abbrev pub minor_version : ℕ
minor_version = 0

abbrev pub linktype_ethernet : ℕ
linktype_ethernet = 1

-- packets of any length are captured whole
abbrev pub no_snaplen : ℕ
no_snaplen = 0

-- moments are in units of ten to the power of minus this number of seconds
abbrev pub microseconds : ℕ
microseconds = 6

abbrev pub opt_comment : ℕ
opt_comment = 1

abbrev pub shb_userappl : ℕ
shb_userappl = 4

abbrev pub if_name : ℕ
if_name = 2

abbrev pub if_description : ℕ
if_description = 3

abbrev pub if_tsresol : ℕ
if_tsresol = 9

-- ---- the blocks of a capture

-- the magic number, version 1.0, a section of unknown length, and the program's name (shb_userappl)
unfoldable pub section_body : List ℕ → List ℕ
section_body program =
    number32 byte_order_magic ++ number16 major_version ++ number16 minor_version ++ replicate 8 255 ++ option_of shb_userappl program ++ end_of_options

abbrev pub section_header : List ℕ → List ℕ
section_header program = block section_header_type (section_body program)

-- Ethernet, packets of any length; its name (if_name), its description (if_description) and microseconds (if_tsresol)
unfoldable pub interface_body : List ℕ → List ℕ → List ℕ
interface_body name description =
    number16 linktype_ethernet ++ number16 0 ++ number32 no_snaplen ++ option_of if_name name ++ option_of if_description description
    ++ option_of if_tsresol (microseconds ∷ []) ++ end_of_options

abbrev pub interface : List ℕ → List ℕ → List ℕ
interface name description = block interface_type (interface_body name description)

-- its interface, its moment in microseconds in two halves, how many octets were captured and are in the packet, the octets, and
-- a comment (opt_comment)
unfoldable pub packet_body : ℕ → ℕ → List ℕ → List ℕ → List ℕ
packet_body number moment octets comment =
    number32 number ++ number32 (moment / 2 ^ 32) ++ number32 (moment % 2 ^ 32) ++ number32 (length octets) ++ number32 (length octets) ++ padded octets
    ++ option_of opt_comment comment ++ end_of_options

abbrev pub packet : ℕ → ℕ → List ℕ → List ℕ → List ℕ
packet number moment octets comment = block packet_type (packet_body number moment octets comment)

-- ---- what fits

-- the lengths in a block fit their fields
pub record FitsSection (program : List ℕ) : Type 0 where
  pub program_fits : length program < 2 ^ 16
  pub block_fits : length (section_body program) + 12 < 2 ^ 32

pub record FitsInterface (name description : List ℕ) : Type 0 where
  pub name_fits : length name < 2 ^ 16
  pub description_fits : length description < 2 ^ 16
  pub block_fits : length (interface_body name description) + 12 < 2 ^ 32

pub record FitsPacket (number moment : ℕ) (octets comment : List ℕ) : Type 0 where
  pub comment_fits : length comment < 2 ^ 16
  pub block_fits : length (packet_body number moment octets comment) + 12 < 2 ^ 32
