-- The text of a closed run.
--     Said         what a transcript says: nodes, links, the order of the main worker's entries, records and rows
--     said_in      what the transcript of a run says that tells moments in this unit
--     said_lines   its lines
--     run_text     the text of a run that is written; run_text_in with moments in this unit
use Rattle.std.specs.Prelude.{ℕ, List, [], ◌∷◌, ◌++◌, map, codes}
use Rattle.std.specs.Fmt.{decimal}
use Rattle.hsr_text.specs.declared.time_unit.TimeUnit.{TimeUnit}
use Rattle.hsr_text.specs.declared.time_unit.TimeUnit.TheVariants.{Microseconds}
use Rattle.hsr_node.specs.declared.entry.Entry.{Entry}
use Rattle.hsr_node.specs.declared.place.Place.{Place}
use Rattle.hsr_link.specs.declared.row.Row.{Row}
use Rattle.hsr_finished_run.specs.Finished.{Finished}
use Rattle.hsr_topology.specs.declared.end.End.{End}
use Rattle.hsr_transcript_lines.specs.Lines.{head, lines_each, section, text_of}
use Rattle.hsr_transcript_lines.specs.Spelled.{entry_text, link_text, place_text, row_text, version_text}

pub record Said : Type 0 where
  -- in which the text tells moments
  pub unit : TimeUnit
  pub nodes : List Place
  -- the two ends of each link
  pub links : List (List End)
  -- the nodes of the main worker's entries, in order: each stands for that node's next entry of worker 0
  pub main : List ℕ
  -- the entries of each node, the oldest first, with their moments in microseconds
  pub records : List (List Entry)
  -- the rows of each link
  pub carried : List (List Row)

abbrev pub said_in : TimeUnit → Finished → Said
said_in unit f = record {
  unit = unit;
  nodes = f.run.places;
  links = f.run.links;
  main = map (λ p. p.node) f.plan;
  records = f.run.records;
  carried = f.run.rows;
}

abbrev pub record_lines : TimeUnit → Place → List Entry → List (List ℕ)
record_lines unit place entries = section (codes "record") (entry_text unit place) entries

abbrev pub carried_lines : List Row → List (List ℕ)
carried_lines rows = section (codes "carried") row_text rows

-- the lines up to the records, of tables with `capacity` entries
unfoldable pub said_front : ℕ → Said → List (List ℕ)
said_front capacity t =
    version_text t.unit ∷ head (codes "table") capacity
    ∷ (section (codes "nodes") place_text t.nodes
    ++ (section (codes "links") (link_text t.nodes) t.links
    ++ section (codes "main") decimal t.main))

-- all lines
unfoldable pub said_lines : ℕ → Said → List (List ℕ)
said_lines capacity t =
    said_front capacity t
    ++ (lines_each (record_lines t.unit) t.nodes t.records
    ++ (lines_each (λ _. carried_lines) t.links t.carried
    ++ codes "end" ∷ []))

-- the text of a run that tells moments in this unit
abbrev pub run_text_in : TimeUnit → Finished → List ℕ
run_text_in unit f = text_of (said_lines f.run.capacity (said_in unit f))

-- the text of a run that is written
abbrev pub run_text : Finished → List ℕ
run_text f = run_text_in Microseconds f
