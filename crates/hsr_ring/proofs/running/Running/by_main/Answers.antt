use Rattle.std.proofs.Common.{rules, ◌<◌, ◌∙◌, ap, sym, subst, arith, length, map}
use Rattle.std.proofs.lemmas.List.{length-map}
use Rattle.hsr_node.specs.Kept.{Record}
use Rattle.hsr_world_links.specs.Touching.{touching_from}
use Rattle.hsr_world_laws.specs.World.{World}
use Rattle.hsr_world_links.proofs.Touched.{touching_at}
use Rattle.hsr_ring.proofs.running.Running.by_main.Goals as goal

pub enter_at-requires : goal.enter_at-requires
enter_at-requires g c =
    let w : World = c.args.self.now in
    let count = ap (λ (v : World). length v.places) (sym c.self.view_is) ∙ length-map c.self.inside.nodes.items (λ (r : Record). r.place) in
    let below : c.args.node < length w.places = omega (arith, count, c.len.ensures, c.if-node-len.false) in (
      search rules,
      (
        subst (λ (v : World). c.args.node < length v.places) (sym c.in-Ok.ensures.ok) below,
        c.touching_of.ensures
            ∙ touching_at w.places w.spans (map (λ links. links.items) c.args.touching.now) c.args.node c.requires below
            ∙ ap (λ (v : World). touching_from c.args.node 0 v.spans) (sym c.in-Ok.ensures.ok),
      ),
    )
