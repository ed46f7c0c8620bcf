-- The arrows of a picture.
--     arrow_shape    an arrow: its look, and what became of its copy as hover text
--     label_shapes   what stands at the point of an arrow
use Rattle.std.specs.Prelude.{ℕ, Bool, true, false, List, [], ◌∷◌, slice_get, Option, Some, None}
use Rattle.hsr_node.specs.declared.event.Probe.{Probe}
use Rattle.hsr_link.specs.Words.{fate_word}
use Rattle.hsr_link.specs.declared.row.Row.{Row}
use Rattle.hsr_run_laws.specs.Run.{Run, rows_of}
use Rattle.hsr_capture.specs.Comments.{comment_of}
use Rattle.hsr_diagram.specs.declared.arrow.Arrow.{Arrow}
use Rattle.hsr_diagram.specs.declared.arrow.Look.{Look}
use Rattle.hsr_diagram.specs.declared.arrow.Look.TheVariants.{TakenUp, Lost}
use Rattle.hsr_svg.specs.Elements.{Shape, arrow, text}
use Rattle.hsr_diagram_text.specs.Sends.{send_text}
use Rattle.hsr_svg.specs.declared.elements.Label.TheVariants as label

-- of the look that tells what became of the copy, with the comment that a capture has of its row
abbrev pub arrow_shape : List (List ℕ) → Run → Arrow → Shape
arrow_shape names run a = arrow a.look (comment_of names run a.row)

-- of which send a copy is, if it is of one; nothing where only one is shown
abbrev pub copy_if : List (List ℕ) → Bool → Option Probe → List Shape
copy_if names true send = []
copy_if names false None = []
copy_if names false (Some send) = text (label.Copy TakenUp) (send_text names send) ∷ []

-- how a copy was lost; of which send one is that was taken up
abbrev pub label_by : List (List ℕ) → Bool → Look → Row → List Shape
label_by names has_one Lost row = text (label.Copy Lost) (fate_word row.fate) ∷ []
label_by names has_one TakenUp row = copy_if names has_one row.carried.probe
label_by names has_one look row = []

abbrev pub label_if : List (List ℕ) → Bool → Look → Option Row → List Shape
label_if names has_one look None = []
label_if names has_one look (Some row) = label_by names has_one look row

abbrev pub label_shapes : List (List ℕ) → Run → Bool → Arrow → List Shape
label_shapes names run has_one a = label_if names has_one a.look (slice_get (rows_of run a.row.link) a.row.number)
