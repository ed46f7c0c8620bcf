-- Where the blocks of a pcapng file stand (draft-ietf-opsawg-pcapng, section 3.1): a block is its type, its length, its body, and its
-- length again. A section begins with a block of its own, which says the byte order.
--     start_of      the byte order and the length of the block that stands first
--     block_of      that block
--     blocks_past   the blocks of a file, and how they end
use Rattle.std.specs.Prelude.{ℕ, zero, suc, ◌+◌, ◌-◌, ◌%◌, ◌==◌, ◌&&◌, ◌||◌, not, nat_lt, Bool, true, false, if◌then◌else◌, List, [], ◌∷◌, length, slice_range, Option, Some, None, Result, Ok, Err}
use Rattle.hsr_frame.specs.Cases.{first_of}
use Rattle.hsr_capture_reader.specs.declared.fault.CaptureFault.{CaptureFault}
use Rattle.hsr_capture_reader.specs.declared.fault.CaptureFault.TheVariants as fault
use Rattle.hsr_capture_reader.specs.declared.fault.Refusal.{Refusal}
use Rattle.hsr_capture_reader.specs.declared.blocks.Start.{Start}
use Rattle.hsr_capture_reader.specs.declared.numbers.ByteOrder.{ByteOrder}
use Rattle.hsr_capture_reader.specs.declared.numbers.ByteOrder.TheVariants.{Little, Big}
use Rattle.hsr_capture_reader.specs.Numbers.{number32}

-- a block: where it stands in its file, the byte order of its section, its type, and its body
pub record BlockFields : Type 0 where
  pub offset : ℕ
  pub order : ByteOrder
  pub block_type : ℕ
  pub body : List ℕ

-- ---- the block that stands first

abbrev pub is_section : List ℕ → Bool
is_section (a ∷ b ∷ c ∷ d ∷ octets) = (a == 10) && (b == 13) && (c == 13) && (d == 10)
is_section octets = false

-- the byte order that a block says, which begins a section
abbrev pub section_order : List ℕ → Option ByteOrder
section_order octets = first_of
    ((number32 Little octets 8 == 0x1A2B3C4D, Some Little)
    ∷ (number32 Little octets 8 == 0x4D3C2B1A, Some Big)
    ∷ [])
    None

-- the byte order of a block, behind blocks of one
abbrev pub order_at : ByteOrder → List ℕ → Option ByteOrder
order_at before octets = if is_section octets then section_order octets else Some before

-- its length, in a byte order: nothing where the file breaks off before its end
abbrev pub start_in : List ℕ → Option ByteOrder → Result (Option Start) CaptureFault
start_in octets None = Err fault.ByteOrder
start_in octets (Some order) = let len = number32 order octets 4 in first_of
    ((nat_lt len 12 || not (len % 4 == 0), Err fault.Block)
    ∷ (nat_lt (length octets) len, Ok None)
    ∷ (not (number32 order octets (len - 4) == len), Err fault.Block)
    ∷ [])
    (Ok (Some (record { order = order; len = len })))

unfoldable pub start_of : ByteOrder → List ℕ → Result (Option Start) CaptureFault
start_of before octets = if nat_lt (length octets) 12 then Ok None else start_in octets (order_at before octets)

abbrev pub block_of : ℕ → Start → List ℕ → BlockFields
block_of offset start octets = record { offset = offset; order = start.order; block_type = number32 start.order octets 0; body = slice_range octets 8 (start.len - 4) }

-- ---- the blocks of a file

-- the blocks, and how they end: at the end of the file, or where it breaks off, or where something is wrong
pub record Blocks : Type 0 where
  pub blocks : List BlockFields
  pub is_short : Result Bool Refusal

abbrev pub no_more : Result Bool Refusal → Blocks
no_more is_short = record { blocks = []; is_short = is_short }

-- a block put before others, if one starts there
abbrev pub onto : ℕ → List ℕ → Result (Option Start) CaptureFault → Blocks → Blocks
onto offset octets (Err f) others = no_more (Err (record { offset = offset; fault = f }))
onto offset octets (Ok None) others = no_more (Ok true)
onto offset octets (Ok (Some start)) others = record { blocks = block_of offset start octets ∷ others.blocks; is_short = others.is_short }

abbrev pub length_in : Result (Option Start) CaptureFault → ℕ
length_in (Err f) = 0
length_in (Ok None) = 0
length_in (Ok (Some start)) = start.len

abbrev pub order_in : ByteOrder → Result (Option Start) CaptureFault → ByteOrder
order_in before (Err f) = before
order_in before (Ok None) = before
order_in before (Ok (Some start)) = start.order

-- The blocks from an offset on, behind blocks of a byte order. So many octets of a block, which was told, are stepped over first.
abbrev pub blocks_past : ℕ → ℕ → ByteOrder → List ℕ → Blocks
blocks_past n offset before [] = no_more (Ok false)
blocks_past (suc n) offset before (octet ∷ octets) = blocks_past n (offset + 1) before octets
blocks_past zero offset before (octet ∷ octets) =
    onto offset (octet ∷ octets) (start_of before (octet ∷ octets))
    (blocks_past (length_in (start_of before (octet ∷ octets)) - 1) (offset + 1) (order_in before (start_of before (octet ∷ octets))) octets)
