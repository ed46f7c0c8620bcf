use Rattle.std.proofs.lemmas.Result.{on_ok_weaker}
use Rattle.hsr_timeline.specs.Fronts.{lists_of}
use Rattle.hsr_diagram_layout.proofs.Scenes.{scene}
use Rattle.hsr_diagram_layout.proofs.svg.add_scene.Goals as goal

pub returns : goal.returns
returns g c =
    let sheet = c.in_ok-sheet.sheet in
    on_ok_weaker c.add_all.result
    (λ added. scene (lists_of c.args.names.now) c.args.closed.now.run c.args.picture.now c.args.downs.now c.args.switches.now c.args.elements.now.items c.add_all.new.elements.items
    sheet.columns.nodes.items sheet.columns.lanes.items sheet.moments.items sheet.items.items
    c.requires added c.in_ok-sheet.ensures.nodes c.in_ok-sheet.ensures.lanes c.in_ok-sheet.ensures.moments c.in_ok-sheet.ensures.listed)
    c.add_all.ensures
