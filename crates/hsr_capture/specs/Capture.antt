-- The capture of rows of a finished run.
--     interfaces   one for each direction of each link
--     packet_of    that of a row
--     capture      the whole
use Rattle.std.specs.Prelude.{ℕ, zero, suc, ◌+◌, ◌*◌, List, [], ◌++◌, codes, length, slice_get, Option, Some, None}
use Rattle.std.specs.List.{flat_map}
use Rattle.hsr_link.specs.declared.row.Dir.{Dir}
use Rattle.hsr_link.specs.declared.row.Dir.TheVariants.{Forth, Back}
use Rattle.hsr_link.specs.declared.row.Row.{Row}
use Rattle.hsr_run_laws.specs.Run.{Run, rows_of}
use Rattle.hsr_pcapng.specs.Blocks.{interface, packet, section_header}
use Rattle.hsr_timeline.specs.declared.shown.Shown.{Shown}
use Rattle.hsr_capture.specs.Comments.{comment, interface_description, interface_name}

-- ---- interfaces

abbrev pub interface_of : List (List ℕ) → Run → ℕ → Dir → List ℕ
interface_of names run l dir = interface (interface_name names run l dir) (interface_description l dir)

-- those of the links below one
abbrev pub interfaces_below : List (List ℕ) → Run → ℕ → List ℕ
interfaces_below names run zero = []
interfaces_below names run (suc l) = interfaces_below names run l ++ (interface_of names run l Forth ++ interface_of names run l Back)

-- the number of a link's direction among them
abbrev pub interface_number : ℕ → Dir → ℕ
interface_number l Forth = 2 * l
interface_number l Back = 2 * l + 1

-- ---- packets

-- a row's, with its octets, at its moment
abbrev pub packet_if : List (List ℕ) → Run → Shown → Option Row → List ℕ
packet_if names run shown None = []
packet_if names run shown (Some row) = packet (interface_number shown.link row.dir) shown.moment row.carried.octets (comment names run shown row)

abbrev pub packet_of : List (List ℕ) → Run → Shown → List ℕ
packet_of names run shown = packet_if names run shown (slice_get (rows_of run shown.link) shown.number)

-- ---- the whole

abbrev pub capture : List (List ℕ) → Run → List Shown → List ℕ
capture names run rows = section_header (codes "hsr_view") ++ interfaces_below names run (length run.links) ++ flat_map (packet_of names run) rows
