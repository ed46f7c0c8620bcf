-- A whole text, section by section.
use Rattle.std.specs.Prelude.{ℕ, List, Option, Result, codes}
use Rattle.hsr_text.specs.declared.time_unit.TimeUnit.{TimeUnit}
use Rattle.hsr_topology.specs.declared.end.End.{End}
use Rattle.hsr_node.specs.declared.entry.Entry.{Entry}
use Rattle.hsr_node.specs.declared.place.Place.{Place}
use Rattle.hsr_link.specs.declared.row.Row.{Row}
use Rattle.hsr_transcript_lines.specs.Lines.{head}
use Rattle.hsr_transcript_lines.specs.Parsed.{count_of, entry_of, link_of, only, place_of, row_of, turn_of, version_of}
use Rattle.hsr_transcript.specs.Reading.{◌>>=◌, Reader, counted, each, gives, line_of, line_or, whole}
use Rattle.hsr_transcript.specs.Transcript.{Said}
use Rattle.hsr_transcript.specs.declared.fault.ReadFault.{ReadFault}
use Rattle.hsr_transcript.specs.declared.fault.ReadFault.TheVariants.{Version, BadLine}

-- as many lines of a kind as the line before them says
unfoldable pub section_at : {Y : Type 0} → List ℕ → (List ℕ → Option Y) → Reader (List Y)
section_at name of = counted (count_of name) (line_of of)

-- the record of a node
abbrev pub record_at : TimeUnit → Place → Reader (List Entry)
record_at unit place = section_at (codes "record") (entry_of unit place)

-- the rows of a link
abbrev pub carried_at : List End → Reader (List Row)
carried_at ends = section_at (codes "carried") row_of

-- what is wrong with the first line is the version
abbrev pub as_version : ReadFault → ReadFault
as_version (BadLine n) = Version
as_version fault = fault

unfoldable pub version_at : Reader TimeUnit
version_at = line_or (λ _. Version) version_of

unfoldable pub only_at : List ℕ → Reader (Unit {0})
only_at line = line_of (only line)

unfoldable pub records_at : TimeUnit → List Place → Reader (List (List Entry))
records_at unit nodes = each (record_at unit) nodes

unfoldable pub rows_at : List (List End) → Reader (List (List Row))
rows_at links = each carried_at links

-- the end of a text that says this
unfoldable pub end_on : Said → Reader Said
end_on said = only_at (codes "end") >>= λ _. gives said

-- what follows the records
unfoldable pub carried_on : TimeUnit → List Place → List (List End) → List ℕ → List (List Entry) → Reader Said
carried_on unit nodes links main records =
    rows_at links >>= λ carried. end_on (record { unit = unit; nodes = nodes; links = links; main = main; records = records; carried = carried })

-- what follows the order of the main worker's entries
unfoldable pub records_on : TimeUnit → List Place → List (List End) → List ℕ → Reader Said
records_on unit nodes links main = records_at unit nodes >>= λ records. carried_on unit nodes links main records

-- what follows the links
unfoldable pub main_on : TimeUnit → List Place → List (List End) → Reader Said
main_on unit nodes links = section_at (codes "main") turn_of >>= λ main. records_on unit nodes links main

-- what follows the nodes
unfoldable pub links_on : TimeUnit → List Place → Reader Said
links_on unit nodes = section_at (codes "links") (link_of nodes) >>= λ links. main_on unit nodes links

-- what follows the first two lines
unfoldable pub nodes_on : TimeUnit → Reader Said
nodes_on unit = section_at (codes "nodes") place_of >>= λ nodes. links_on unit nodes

-- what follows the first line, of tables with `capacity` entries
unfoldable pub table_on : ℕ → TimeUnit → Reader Said
table_on capacity unit = only_at (head (codes "table") capacity) >>= λ _. nodes_on unit

-- all of a text
unfoldable pub said_at : ℕ → Reader Said
said_at capacity = version_at >>= λ unit. table_on capacity unit

-- what a text that is in form says, or its first fault
unfoldable pub form_of : ℕ → List ℕ → Result Said ReadFault
form_of capacity text = whole (said_at capacity) text
