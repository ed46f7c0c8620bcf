use Rattle.std.proofs.Common.{List, length, map, subst, sym, ap, ◌∙◌}
use Rattle.std.specs.List.{All}
use Rattle.hsr_node.specs.declared.place.Place.{Place}
use Rattle.hsr_ring.specs.Pending.{IsKept}
use Rattle.hsr_world_links.specs.Ports.{ports_in}
use Rattle.hsr_world_links.specs.Touching.{touching_in}
use Rattle.hsr_world_laws.specs.Fit.{FitsPlace}
use Rattle.hsr_world_laws.specs.World.{World}
use Rattle.hsr_world_laws.proofs.Reached.{reached-new}
use Rattle.hsr_ring.proofs.Looked.{kept_new}
use Rattle.hsr_ring.proofs.world.World.new.Goals as goal

pub invariant_of-result : goal.invariant_of-result
invariant_of-result g c =
    let fit = subst (λ (places : List Place). All FitsPlace places) c.places.ensures.value c.places_fit.ensures in
    let t = c.args.topology in
    let told = c.in_ok-ports.ensures ∙ ap (λ (w : World). ports_in w.places w.spans) c.in_ok-running.ensures in
    let touching = c.in_ok-touching.ensures ∙ ap (λ (w : World). touching_in (length w.places) w.spans) c.in_ok-running.ensures in
    subst (λ (w : World). IsKept g.row.C t.places t.links c.in_ok-ports.ports.items (map (λ links. links.items) c.in_ok-touching.touching.items) c.new-2.result w) (sym c.in_ok-running.ensures)
    (kept_new g.row.C c.args.capacity t.places t.links c.in_ok-ports.ports.items (map (λ links. links.items) c.in_ok-touching.touching.items) c.new-2.result c.requires.entries (reached-new g.row.C c.args.capacity t.places t.links fit)
    c.places.ensures.wired.few_places c.places.ensures.wired.few_links told touching c.new-2.ensures)
