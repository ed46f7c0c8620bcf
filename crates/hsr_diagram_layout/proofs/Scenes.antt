-- Elements that were added to none are a scene.
use Rattle.std.proofs.Common.{◌≡◌, ℕ, List, [], ◌++◌, ap, ◌∙◌}
use Rattle.hsr_downs.specs.declared.downing.Down.{Down}
use Rattle.hsr_downs.specs.declared.switching.Switch.{Switch}
use Rattle.hsr_run_laws.specs.Run.{Run}
use Rattle.hsr_diagram.specs.Panels.{lanes_in}
use Rattle.hsr_diagram.specs.declared.panel.Lane.{Lane}
use Rattle.hsr_diagram.specs.Pictures.{Picture}
use Rattle.hsr_svg.specs.Elements.{Shape, shapes}
use Rattle.hsr_svg.specs.declared.elements.Element.{Element}
use Rattle.hsr_diagram_layout.specs.Drawing.{IsScene, picture_shapes}
use Rattle.hsr_diagram_layout.specs.Frame.{nodes_of}
use Rattle.hsr_diagram_layout.specs.Items.{AreListed}
use Rattle.hsr_diagram_layout.specs.Moments.{AreMoments, all_moments}
use Rattle.hsr_diagram_layout.specs.declared.items.Item.{Item}

pub scene : (names : List (List ℕ)) (run : Run) (picture : Picture) (downs : List Down) (switches : List Switch) (old new : List Element) (nodes : List ℕ) (lanes : List Lane) (moments : List ℕ) (items : List Item) →
    old ≡ [] → shapes new ≡ shapes old ++ picture_shapes names run picture downs switches nodes lanes moments items → nodes ≡ nodes_of picture.panels → lanes ≡ lanes_in picture.panels →
    AreMoments (all_moments picture.arrows picture.sends) moments → AreListed picture.sends items → IsScene names run picture downs switches new
unfolding shapes
scene names run picture downs switches old new nodes lanes moments items none added lines strips are_moments are_listed = record {
  moments = moments;
  are_moments = are_moments;
  items = items;
  are_listed = are_listed;
  shown = added ∙ (ap (λ (es : List Element). shapes es ++ picture_shapes names run picture downs switches nodes lanes moments items) none
      ∙ (ap (λ (ns : List ℕ). picture_shapes names run picture downs switches ns lanes moments items) lines
      ∙ ap (λ (ls : List Lane). picture_shapes names run picture downs switches (nodes_of picture.panels) ls moments items) strips));
}
