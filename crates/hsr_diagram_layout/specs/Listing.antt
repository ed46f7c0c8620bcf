-- The list of sends at the right.
use Rattle.std.specs.Prelude.{ℕ, Bool, List, [], ◌∷◌, slice_get, Option, Some, None}
use Rattle.hsr_run_laws.specs.Run.{Run}
use Rattle.hsr_deliveries.specs.Delivered.{Delivery, is_complete}
use Rattle.hsr_diagram_text.specs.Sent.{sent_words}
use Rattle.hsr_svg.specs.Elements.{Shape, line, text}
use Rattle.hsr_svg.specs.declared.elements.Label.TheVariants as label
use Rattle.hsr_svg.specs.declared.elements.Line.TheVariants as lines
use Rattle.hsr_diagram_layout.specs.declared.items.Item.{Item}

-- what joins it with its row, and its words
unfoldable pub listed_shapes : Bool → List ℕ → List Shape
listed_shapes complete words = line lines.Sent ∷ text (label.Sent complete) words ∷ []

abbrev pub delivery_shapes : List (List ℕ) → Run → Delivery → List Shape
delivery_shapes names run d = listed_shapes (is_complete d) (sent_words names run d)

abbrev pub delivery_if : List (List ℕ) → Run → Option Delivery → List Shape
delivery_if names run None = []
delivery_if names run (Some d) = delivery_shapes names run d

abbrev pub item_shapes : List (List ℕ) → Run → List Delivery → Item → List Shape
item_shapes names run deliveries item = delivery_if names run (slice_get deliveries item.number)
