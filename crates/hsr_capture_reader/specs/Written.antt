-- What hsr_pcapng writes is read back as it was written.
use Rattle.std.specs.Prelude.{◌≡◌, ℕ, ◌+◌, List, ◌∷◌, ◌++◌, length}
use Rattle.hsr_pcapng.specs.Blocks as written
use Rattle.hsr_capture_reader.specs.declared.numbers.ByteOrder.{ByteOrder}
use Rattle.hsr_capture_reader.specs.declared.numbers.ByteOrder.TheVariants.{Little}
use Rattle.hsr_capture_reader.specs.Blocks.{BlockFields, Blocks, blocks_past}

-- a block in front of others
abbrev pub ahead_of : BlockFields → Blocks → Blocks
ahead_of block others = record { blocks = block ∷ others.blocks; is_short = others.is_short }

-- a block of this type and body stands at an offset, and then what follows it
abbrev pub IsReadAs : ℕ → ByteOrder → ℕ → List ℕ → Type 0
IsReadAs offset before block_type body = (more : List ℕ) →
    blocks_past 0 offset before (written.block block_type body ++ more)
    ≡ ahead_of (record { offset = offset; order = Little; block_type = block_type; body = body }) (blocks_past 0 (offset + (length body + 12)) Little more)

-- whatever stands in front: a section header, and in a little-endian section an interface and a packet
pub record IsReadBack : Type 0 where
  pub header : (offset : ℕ) (before : ByteOrder) (program : List ℕ) → written.FitsSection program
      → IsReadAs offset before written.section_header_type (written.section_body program)
  pub interface : (offset : ℕ) (name description : List ℕ) → written.FitsInterface name description
      → IsReadAs offset Little 1 (written.interface_body name description)
  pub packet : (offset number moment : ℕ) (octets comment : List ℕ) → written.FitsPacket number moment octets comment
      → IsReadAs offset Little 6 (written.packet_body number moment octets comment)
