-- The frame of a picture: moments, node lines with their names, and links.
--     nodes_of       the nodes whose lines stand side by side
--     frame_shapes   what is drawn of all
use Rattle.std.specs.Prelude.{ℕ, zero, suc, ◌==◌, Bool, List, [], ◌∷◌, ◌++◌, length, map, take, slice_get, slice_index, Option, Some, None}
use Rattle.std.specs.List.{flat_map, list_any}
use Rattle.hsr_node.specs.declared.place.Place.{Place}
use Rattle.hsr_timeline.specs.Names.{name_of}
use Rattle.hsr_diagram.specs.Panels.{Panel}
use Rattle.hsr_diagram.specs.declared.panel.Lane.{Lane}
use Rattle.hsr_diagram_text.specs.Labels.{kind_word, letter_at, link_words}
use Rattle.hsr_diagram_text.specs.Moments.{moment_text}
use Rattle.hsr_svg.specs.Elements.{Shape, line, text}
use Rattle.hsr_svg.specs.declared.elements.Label.TheVariants as label
use Rattle.hsr_svg.specs.declared.elements.Line.TheVariants as lines

-- ---- node lines

-- the nodes of the lines of a panel: its first, and the one at the right of each lane
abbrev pub nodes_in : Panel → List ℕ
nodes_in panel = panel.first ∷ map (λ lane. lane.right.node) panel.lanes

-- of all panels, from left to right
abbrev pub nodes_of : List Panel → List ℕ
nodes_of panels = flat_map nodes_in panels

-- the node of a line has one before it
abbrev pub is_again : List ℕ → ℕ → Bool
is_again nodes i = list_any (λ before. before == slice_index nodes i) (take i nodes)

-- the lines below one
abbrev pub strokes_below : List ℕ → ℕ → List Shape
strokes_below nodes zero = []
strokes_below nodes (suc i) = strokes_below nodes i ++ line (lines.Node (is_again nodes i)) ∷ []

-- ---- names

abbrev pub kind_if : Option Place → List Shape
kind_if None = []
kind_if (Some place) = text label.Kind (kind_word place) ∷ []

-- the name of the node of a line, and what kind of node it is
unfoldable pub head_shapes : List (List ℕ) → List Place → List ℕ → ℕ → List Shape
head_shapes names places nodes i = text (label.Name (is_again nodes i)) (name_of names (slice_index nodes i)) ∷ kind_if (slice_get places (slice_index nodes i))

-- those of the lines below one
abbrev pub heads_below : List (List ℕ) → List Place → List ℕ → ℕ → List Shape
heads_below names places nodes zero = []
heads_below names places nodes (suc i) = heads_below names places nodes i ++ head_shapes names places nodes i

-- ---- links

-- the letter of the port at its left, that of the one at its right, and its number
unfoldable pub link_shapes : List Place → Lane → List Shape
link_shapes places lane =
    text label.Link (letter_at (slice_get places lane.left.node) lane.left.port ∷ []) ∷ text label.Link (letter_at (slice_get places lane.right.node) lane.right.port ∷ [])
    ∷ text label.Link (link_words lane.link) ∷ []

-- ---- moments

-- a line, and the moment below it
unfoldable pub moment_shapes : ℕ → List Shape
moment_shapes moment = line lines.Moment ∷ text label.Moment (moment_text moment) ∷ []

-- ---- all

-- with these moments, lines of these nodes, and these lanes between them
unfoldable pub frame_shapes : List (List ℕ) → List Place → List ℕ → List Lane → List ℕ → List Shape
frame_shapes names places nodes lanes moments =
    flat_map moment_shapes moments ++ strokes_below nodes (length nodes) ++ heads_below names places nodes (length nodes) ++ flat_map (link_shapes places) lanes
