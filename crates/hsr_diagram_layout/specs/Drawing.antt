-- A picture as SVG.
--     picture_shapes   what its elements show, in order
--     IsScene          elements show a picture, wherever they stand
--     IsDrawing        octets are such elements, spelled
use Rattle.std.specs.Prelude.{ℕ, ◌≡◌, ◌==◌, List, [], ◌∷◌, ◌++◌, length, map}
use Rattle.std.specs.List.{flat_map}
use Rattle.hsr_downs.specs.declared.downing.Down.{Down}
use Rattle.hsr_downs.specs.declared.switching.Switch.{Switch}
use Rattle.hsr_run_laws.specs.Run.{Run}
use Rattle.hsr_diagram.specs.Panels.{lanes_in}
use Rattle.hsr_diagram.specs.declared.panel.Lane.{Lane}
use Rattle.hsr_diagram.specs.Pictures.{Picture}
use Rattle.hsr_diagram_layout.specs.Arrows.{arrow_shape, label_shapes}
use Rattle.hsr_svg.specs.Elements.{Shape, labels_begin, labels_end, shapes, text}
use Rattle.hsr_diagram_layout.specs.Frame.{frame_shapes, nodes_of}
use Rattle.hsr_diagram_layout.specs.Legend.{foot_shapes, legend_shapes}
use Rattle.hsr_diagram_layout.specs.Items.{AreListed}
use Rattle.hsr_diagram_layout.specs.Listing.{item_shapes}
use Rattle.hsr_diagram_layout.specs.Marks.{sent_marks}
use Rattle.hsr_diagram_layout.specs.Moments.{AreMoments, all_moments}
use Rattle.hsr_diagram_layout.specs.Shades.{change_shapes, sample_shade, shade_shapes}
use Rattle.hsr_diagram_layout.specs.Switches.{switch_shapes}
use Rattle.hsr_svg.specs.Spelling.{svg_text}
use Rattle.hsr_diagram_layout.specs.Telling.{incomplete, told_shapes}
use Rattle.hsr_diagram_text.specs.Title.{title_words}
use Rattle.hsr_svg.specs.declared.elements.Element.{Element}
use Rattle.hsr_svg.specs.declared.elements.Label.TheVariants as label
use Rattle.hsr_diagram_layout.specs.declared.items.Item.{Item}

-- Each arrow of the picture once, in its order; on a white ground what stands at the points of arrows, the marks of sends on the lines of
-- these nodes, those of cuts and mends, and those of nodes that go off or come on, where these are the moments; and the list of sends.
unfoldable pub above_shapes : List (List ℕ) → Run → Picture → List Down → List Switch → List ℕ → List ℕ → List Item → List Shape
above_shapes names run picture downs switches nodes moments items =
    map (arrow_shape names run) picture.arrows
    ++ labels_begin ∷ [] ++ flat_map (label_shapes names run (length picture.sends == 1)) picture.arrows
    ++ flat_map (sent_marks names nodes picture.deliveries) picture.sends ++ flat_map (change_shapes moments) downs
    ++ flat_map (switch_shapes moments nodes) switches ++ labels_end ∷ []
    ++ flat_map (item_shapes names run picture.deliveries) items

-- the legend, the sends that aren't complete, and the foot
unfoldable pub below_shapes : List (List ℕ) → Picture → List Down → List ℕ → List Shape
below_shapes names picture downs moments =
    legend_shapes picture.arrows ++ sample_shade moments downs ++ told_shapes names picture.deliveries (incomplete picture.deliveries picture.sends) ++ foot_shapes

-- all, with the times in which links are down behind, lines of these nodes, these lanes between them, these moments, and this list of
-- sends
unfoldable pub picture_shapes : List (List ℕ) → Run → Picture → List Down → List Switch → List ℕ → List Lane → List ℕ → List Item → List Shape
picture_shapes names run picture downs switches nodes lanes moments items =
    text label.Title (title_words run picture) ∷ [] ++ shade_shapes moments downs ++ frame_shapes names run.places nodes lanes moments
    ++ above_shapes names run picture downs switches nodes moments items ++ below_shapes names picture downs moments

-- elements show a picture, wherever they stand
pub record IsScene (names : List (List ℕ)) (run : Run) (picture : Picture) (downs : List Down) (switches : List Switch) (elements : List Element) : Type 0 where
  pub moments : List ℕ
  pub are_moments : AreMoments (all_moments picture.arrows picture.sends) moments
  pub items : List Item
  pub are_listed : AreListed picture.sends items
  pub shown : shapes elements ≡ picture_shapes names run picture downs switches (nodes_of picture.panels) (lanes_in picture.panels) moments items

-- octets are elements that show it, spelled one after another
pub record IsDrawing (names : List (List ℕ)) (run : Run) (picture : Picture) (downs : List Down) (switches : List Switch) (octets : List ℕ) : Type 0 where
  pub width : ℕ
  pub height : ℕ
  pub elements : List Element
  pub scene : IsScene names run picture downs switches elements
  pub octets_are : octets ≡ svg_text width height elements
