-- The marks of sends, on the lines of their nodes.
use Rattle.std.specs.Prelude.{ℕ, ◌==◌, if◌then◌else◌, List, [], ◌∷◌, slice_get, Option, Some, None}
use Rattle.std.specs.List.{flat_map}
use Rattle.hsr_node.specs.declared.event.Probe.{Probe}
use Rattle.hsr_deliveries.specs.Delivered.{Delivery}
use Rattle.hsr_diagram.specs.declared.sending.Sent.{Sent}
use Rattle.hsr_svg.specs.Elements.{Shape, square, text}
use Rattle.hsr_diagram_text.specs.Sends.{send_text}
use Rattle.hsr_svg.specs.declared.elements.Label.TheVariants as label

-- a mark, and beside it which send it is
unfoldable pub mark_shapes : List (List ℕ) → Probe → List Shape
mark_shapes names send = square ∷ text label.Mark (send_text names send) ∷ []

abbrev pub mark_if : List (List ℕ) → Probe → ℕ → List Shape
mark_if names send node = if node == send.node then mark_shapes names send else []

-- one on each line of its node, of lines of these nodes
abbrev pub marks_of : List (List ℕ) → List ℕ → Probe → List Shape
marks_of names nodes send = flat_map (mark_if names send) nodes

abbrev pub marks_if : List (List ℕ) → List ℕ → Option Delivery → List Shape
marks_if names nodes None = []
marks_if names nodes (Some d) = marks_of names nodes d.send

-- those of a send that is listed
abbrev pub sent_marks : List (List ℕ) → List ℕ → List Delivery → Sent → List Shape
sent_marks names nodes deliveries sent = marks_if names nodes (slice_get deliveries sent.number)
