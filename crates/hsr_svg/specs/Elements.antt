-- The elements of a picture.
--     Shape    what an element shows, wherever it stands
--     shapes   what elements show
use Rattle.std.specs.Prelude.{ℕ, List, map}
use Rattle.hsr_diagram.specs.declared.arrow.Look.{Look}
use Rattle.hsr_svg.specs.declared.elements.Element.{Element}
use Rattle.hsr_svg.specs.declared.elements.Element.TheVariants as element
use Rattle.hsr_svg.specs.declared.elements.Label.{Label}
use Rattle.hsr_svg.specs.declared.elements.Line.{Line}

-- an arrow of a look with its hover text, one of the legend, another line, the mark of a send, the time in which a link is down, a text
-- with its words; and where texts and marks on a white ground begin and end
pub data Shape : Type 0 where
  arrow : Look → List ℕ → Shape
  sample : Look → Shape
  line : Line → Shape
  square : Shape
  shade : Shape
  text : Label → List ℕ → Shape
  labels_begin : Shape
  labels_end : Shape

abbrev pub shape_of : Element → Shape
shape_of (element.Arrow look title way) = arrow look title
shape_of (element.Sample look way) = sample look
shape_of (element.Line kind way) = line kind
shape_of (element.Square x y) = square
shape_of (element.Shade area) = shade
shape_of (element.Text label words spot) = text label words
shape_of element.LabelsBegin = labels_begin
shape_of element.LabelsEnd = labels_end

unfoldable pub shapes : List Element → List Shape
shapes elements = map shape_of elements
