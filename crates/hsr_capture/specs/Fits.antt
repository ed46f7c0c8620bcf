-- Which captures fit: no length in a block is over what its field can say.
--     DirectionFits   the interface of a link's direction
--     ShownFits       the packet of a row
--     Fits            the whole
use Rattle.std.specs.Prelude.{ℕ, ◌<◌, ⊤, List, All, length, slice_get, Option, Some, None}
use Rattle.hsr_link.specs.declared.row.Dir.{Dir}
use Rattle.hsr_link.specs.declared.row.Dir.TheVariants.{Forth, Back}
use Rattle.hsr_link.specs.declared.row.Row.{Row}
use Rattle.hsr_run_laws.specs.Run.{Run, rows_of}
use Rattle.hsr_pcapng.specs.Blocks.{FitsInterface, FitsPacket}
use Rattle.hsr_timeline.specs.declared.shown.Shown.{Shown}
use Rattle.hsr_capture.specs.Capture.{interface_number}
use Rattle.hsr_capture.specs.Comments.{comment, interface_description, interface_name}

-- ---- interfaces

-- its name and its description have at most 65535 octets each, and its block less than 2^32
abbrev pub DirectionFits : List (List ℕ) → Run → ℕ → Dir → Type 0
DirectionFits names run l dir = FitsInterface (interface_name names run l dir) (interface_description l dir)

-- both of a link
abbrev pub LinkFits : List (List ℕ) → Run → ℕ → Type 0
LinkFits names run l = DirectionFits names run l Forth × DirectionFits names run l Back

-- ---- packets

-- a row's comment has at most 65535 octets, and its block, with the frame, less than 2^32
abbrev pub RowFits : List (List ℕ) → Run → Shown → Option Row → Type 0
RowFits names run shown None = ⊤
RowFits names run shown (Some row) = FitsPacket (interface_number shown.link row.dir) shown.moment row.carried.octets (comment names run shown row)

abbrev pub ShownFits : List (List ℕ) → Run → Shown → Type 0
ShownFits names run shown = RowFits names run shown (slice_get (rows_of run shown.link) shown.number)

-- ---- the whole

-- the interfaces of each link, and each row's packet
pub record Fits (names : List (List ℕ)) (run : Run) (rows : List Shown) : Type 0 where
  pub links_fit : (l : ℕ) → l < length run.links → LinkFits names run l
  pub rows_fit : All (ShownFits names run) rows
