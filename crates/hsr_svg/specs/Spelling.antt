-- Elements as SVG.
--     element_text   an element
--     points_text    what stands at the points of arrows
--     svg_text       elements as a picture
use Rattle.std.specs.Prelude.{ℕ, Bool, true, false, List, [], ◌++◌, codes}
use Rattle.std.specs.Fmt.{decimal}
use Rattle.std.specs.List.{flat_map}
use Rattle.hsr_diagram.specs.declared.arrow.Look.{Look}
use Rattle.hsr_svg.specs.declared.elements.Anchor.{Anchor}
use Rattle.hsr_svg.specs.declared.elements.Area.{Area}
use Rattle.hsr_svg.specs.declared.elements.Anchor.TheVariants as anchor
use Rattle.hsr_svg.specs.declared.elements.Element.{Element}
use Rattle.hsr_svg.specs.declared.elements.Element.TheVariants as element
use Rattle.hsr_svg.specs.declared.elements.Label.{Label}
use Rattle.hsr_svg.specs.declared.elements.Label.TheVariants as label
use Rattle.hsr_svg.specs.declared.elements.Line.{Line}
use Rattle.hsr_svg.specs.declared.elements.Line.TheVariants as line
use Rattle.hsr_svg.specs.declared.elements.Reading.{Reading}
use Rattle.hsr_svg.specs.declared.elements.Reading.TheVariants.{Across, Upwards}
use Rattle.hsr_svg.specs.declared.elements.Spot.{Spot}
use Rattle.hsr_svg.specs.declared.elements.Way.{Way}
use Rattle.hsr_svg.specs.declared.parts.Attribute.TheVariants.{Class, Identity, X, Y, X1, Y1, X2, Y2, Width, Height, Stroke, StrokeWidth, Dashes, Size, Fill, Anchor as At, Weight, Transform, Marker, View}
use Rattle.hsr_svg.specs.Parts.{attribute_name, attribute_text, escaped}
use Rattle.hsr_svg.specs.Style.{head_path, look_colour, look_dashes, look_point, looks}

-- ---- texts

abbrev pub label_size : Label → List ℕ
label_size label.Title = codes "12"
label_size label.Moment = codes "9"
label_size (label.Name is_again) = codes "11"
label_size label.Kind = codes "7.5"
label_size label.Link = codes "7.5"
label_size (label.Copy look) = codes "7"
label_size label.Mark = codes "8"
label_size label.Change = codes "7"
label_size (label.Sent is_complete) = codes "9"
label_size label.Legend = codes "9"
label_size label.Incomplete = codes "9"
label_size label.Foot = codes "7.5"

-- the colour of what is complete, or isn't
abbrev pub complete_colour : Bool → List ℕ
complete_colour true = codes "#111"
complete_colour false = codes "#c8102e"

-- the colour of a node's name over its first line, or over a later one
abbrev pub name_colour : Bool → List ℕ
name_colour false = codes "#111"
name_colour true = codes "#777"

abbrev pub label_colour : Label → List ℕ
label_colour label.Title = codes "#111"
label_colour label.Moment = codes "#333"
label_colour (label.Name is_again) = name_colour is_again
label_colour label.Kind = codes "#555"
label_colour label.Link = codes "#666"
label_colour (label.Copy look) = look_colour look
label_colour label.Mark = codes "#111"
label_colour label.Change = codes "#333"
label_colour (label.Sent is_complete) = complete_colour is_complete
label_colour label.Legend = codes "#222"
label_colour label.Incomplete = codes "#c8102e"
label_colour label.Foot = codes "#666"

abbrev pub label_weight : Label → List ℕ
label_weight label.Title = codes "bold"
label_weight (label.Name is_again) = codes "bold"
label_weight label.Mark = codes "bold"
label_weight other = codes "normal"

abbrev pub anchor_word : Anchor → List ℕ
anchor_word anchor.Start = codes "start"
anchor_word anchor.Middle = codes "middle"
anchor_word anchor.End = codes "end"

unfoldable pub coordinates_text : ℕ → ℕ → List ℕ
coordinates_text x y = decimal x ++ codes " " ++ decimal y

-- a quarter turn against the clock
unfoldable pub quarter_text : List ℕ
quarter_text = codes "=\"rotate(-90 "

-- a text that runs upwards is turned about its point
unfoldable pub rotation_text : ℕ → ℕ → List ℕ
rotation_text x y = codes " " ++ attribute_name Transform ++ quarter_text ++ coordinates_text x y ++ codes ")\""

abbrev pub turn_text : Reading → ℕ → ℕ → List ℕ
turn_text Across x y = []
turn_text Upwards x y = rotation_text x y

-- how it is set
unfoldable pub setting_text : Label → Anchor → List ℕ
setting_text tells anchor =
    attribute_text Size (label_size tells) ++ attribute_text Fill (label_colour tells) ++ attribute_text At (anchor_word anchor)
    ++ attribute_text Weight (label_weight tells)

-- where it stands, how it is set, which way it runs, and its words
unfoldable pub words_text : Label → List ℕ → Spot → List ℕ
words_text tells words spot =
    codes "<text" ++ attribute_text X (decimal spot.x) ++ attribute_text Y (decimal spot.y) ++ setting_text tells spot.anchor
    ++ turn_text spot.reading spot.x spot.y ++ codes ">" ++ escaped words ++ codes "</text>\n"

-- ---- lines

unfoldable pub way_text : Way → List ℕ
way_text way =
    attribute_text X1 (decimal way.x1) ++ attribute_text Y1 (decimal way.y1) ++ attribute_text X2 (decimal way.x2) ++ attribute_text Y2 (decimal way.y2)

unfoldable pub stroke_text : List ℕ → List ℕ → List ℕ → List ℕ
stroke_text colour width dashes = attribute_text Stroke colour ++ attribute_text StrokeWidth width ++ attribute_text Dashes dashes

-- what stands at the point of an arrow
unfoldable pub marker_text : Look → List ℕ
marker_text look = codes " " ++ attribute_name Marker ++ codes "=\"url(#" ++ look_point look ++ codes ")\""

-- a hover text
unfoldable pub title_text : List ℕ → List ℕ
title_text title = codes "<title>" ++ escaped title ++ codes "</title>"

unfoldable pub arrow_text : Look → List ℕ → Way → List ℕ
arrow_text look title way =
    codes "<line" ++ attribute_text Class (codes "arrow") ++ way_text way ++ stroke_text (look_colour look) (codes "1.3") (look_dashes look)
    ++ marker_text look ++ codes ">" ++ title_text title ++ codes "</line>\n"

unfoldable pub sample_text : Look → Way → List ℕ
sample_text look way = codes "<line" ++ way_text way ++ stroke_text (look_colour look) (codes "1.3") (look_dashes look) ++ marker_text look ++ codes "/>\n"

abbrev pub line_colour : Line → List ℕ
line_colour line.Moment = codes "#e2e2e2"
line_colour (line.Node false) = codes "#8f8f8f"
line_colour (line.Node true) = codes "#bdbdbd"
line_colour line.Sent = codes "#bbb"

abbrev pub line_width : Line → List ℕ
line_width line.Moment = codes "0.8"
line_width (line.Node is_again) = codes "1.2"
line_width line.Sent = codes "0.6"

-- a later line of a node is dashed
abbrev pub line_dashes : Line → List ℕ
line_dashes (line.Node true) = codes "3 3"
line_dashes other = codes "none"

unfoldable pub line_text : Line → Way → List ℕ
line_text kind way = codes "<line" ++ way_text way ++ stroke_text (line_colour kind) (line_width kind) (line_dashes kind) ++ codes "/>\n"

-- ---- marks

unfoldable pub area_text : Area → List ℕ
area_text area =
    attribute_text X (decimal area.x) ++ attribute_text Y (decimal area.y) ++ attribute_text Width (decimal area.width) ++ attribute_text Height (decimal area.height)

-- an area of a colour, and the end of its element
unfoldable pub filled_text : Area → List ℕ → List ℕ
filled_text area colour = area_text area ++ attribute_text Fill colour ++ codes "/>\n"

-- so wide and so high
abbrev pub square_at : ℕ → ℕ → Area
square_at x y = record { x = x; y = y; width = 8; height = 8 }

unfoldable pub square_text : ℕ → ℕ → List ℕ
square_text x y = codes "<rect" ++ filled_text (square_at x y) (codes "#111")

-- the time in which a link is down
unfoldable pub shade_text : Area → List ℕ
shade_text area = codes "<rect" ++ attribute_text Class (codes "down") ++ filled_text area (codes "#e3e3e3")

-- where texts and marks on a white ground begin
unfoldable pub labels_text : List ℕ
labels_text = codes "<g stroke=\"#fff\" stroke-width=\"2.6\" stroke-linejoin=\"round\" paint-order=\"stroke\">\n"

-- ---- all elements

abbrev pub element_text : Element → List ℕ
element_text (element.Arrow look title way) = arrow_text look title way
element_text (element.Sample look way) = sample_text look way
element_text (element.Line kind way) = line_text kind way
element_text (element.Square x y) = square_text x y
element_text (element.Shade area) = shade_text area
element_text (element.Text tells words spot) = words_text tells words spot
element_text element.LabelsBegin = labels_text
element_text element.LabelsEnd = codes "</g>\n"

-- ---- points of arrows

unfoldable pub point_box : List ℕ
point_box = codes " viewBox=\"-12 -12 24 24\" markerWidth=\"24\" markerHeight=\"24\" markerUnits=\"userSpaceOnUse\" orient=\"auto\">"

unfoldable pub outline_text : Look → List ℕ
outline_text look =
    codes "<g" ++ attribute_text Fill (look_colour look) ++ attribute_text Stroke (look_colour look) ++ attribute_text StrokeWidth (codes "0") ++ codes ">"
    ++ head_path look ++ codes "</g>"

unfoldable pub point_text : Look → List ℕ
point_text look = codes "<marker" ++ attribute_text Identity (look_point look) ++ point_box ++ outline_text look ++ codes "</marker>\n"

unfoldable pub points_text : List ℕ
points_text = codes "<defs>\n" ++ flat_map point_text looks ++ codes "</defs>\n"

-- ---- the whole

unfoldable pub head_text : List ℕ
head_text = codes "<svg xmlns=\"http://www.w3.org/2000/svg\""

unfoldable pub view_text : ℕ → ℕ → List ℕ
view_text width height = codes " " ++ attribute_name View ++ codes "=\"0 0 " ++ decimal width ++ codes " " ++ decimal height ++ codes "\""

unfoldable pub ground_text : List ℕ
ground_text = codes " font-family=\"DejaVu Sans, Arial, sans-serif\">\n<rect width=\"100%\" height=\"100%\" fill=\"#fff\"/>\n"

-- so wide and so high
unfoldable pub svg_text : ℕ → ℕ → List Element → List ℕ
svg_text width height elements =
    head_text ++ attribute_text Width (decimal width) ++ attribute_text Height (decimal height) ++ view_text width height ++ ground_text
    ++ points_text ++ flat_map element_text elements ++ codes "</svg>\n"
