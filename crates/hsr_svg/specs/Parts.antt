-- Parts of a text of SVG.
--     escaped          a text as it is shown
--     attribute_text   an attribute of an element
use Rattle.std.specs.Prelude.{ℕ, ◌==◌, nat_lt, if◌then◌else◌, List, [], ◌∷◌, ◌++◌, codes}
use Rattle.std.specs.List.{flat_map}
use Rattle.hsr_svg.specs.declared.parts.Attribute.{Attribute}
use Rattle.hsr_svg.specs.declared.parts.Attribute.TheVariants.{Class, Identity, X, Y, X1, Y1, X2, Y2, Width, Height, Stroke, StrokeWidth, Dashes, Size, Fill, Anchor, Weight, Transform, Marker, View}

-- an octet of a text that is shown: what means something in SVG is spelled, and a control is a space
abbrev pub escaped_octet : ℕ → List ℕ
escaped_octet b =
    if b == 38 then codes "&amp;" else (if b == 60 then codes "&lt;" else (if b == 62 then codes "&gt;" else
    (if b == 34 then codes "&quot;" else (if nat_lt b 32 then codes " " else b ∷ []))))

unfoldable pub escaped : List ℕ → List ℕ
escaped shown = flat_map escaped_octet shown

unfoldable pub attribute_name : Attribute → List ℕ
attribute_name Class = codes "class"
attribute_name Identity = codes "id"
attribute_name X = codes "x"
attribute_name Y = codes "y"
attribute_name X1 = codes "x1"
attribute_name Y1 = codes "y1"
attribute_name X2 = codes "x2"
attribute_name Y2 = codes "y2"
attribute_name Width = codes "width"
attribute_name Height = codes "height"
attribute_name Stroke = codes "stroke"
attribute_name StrokeWidth = codes "stroke-width"
attribute_name Dashes = codes "stroke-dasharray"
attribute_name Size = codes "font-size"
attribute_name Fill = codes "fill"
attribute_name Anchor = codes "text-anchor"
attribute_name Weight = codes "font-weight"
attribute_name Transform = codes "transform"
attribute_name Marker = codes "marker-end"
attribute_name View = codes "viewBox"

unfoldable pub attribute_text : Attribute → List ℕ → List ℕ
attribute_text attribute value = codes " " ++ attribute_name attribute ++ codes "=\"" ++ value ++ codes "\""
