use Rattle.std.proofs.Common.{rules, ◌≡◌, ◌<◌, true, false, List, length, slice_index_or, ap, sym, ◌∙◌}
use Rattle.hsr_node.specs.declared.place.Place.{Place}
use Rattle.hsr_certify.specs.Served.{is_missed_at}
use Rattle.hsr_certify.proofs.Serves.{missed_found, missed_more}
use Rattle.hsr_certify.proofs.serving.first_missed.Goals as goal

pub returns-then-is_missed : goal.returns-then-is_missed
returns-then-is_missed c =
    let places : List Place = c.args.places.now in
    let p : Place = c.index-places-node.result in
    let below : c.loop-node.node < length places = search rules in
    let p_is : p ≡ slice_index_or places c.loop-node.node p = search rules in
    let is : c.is_missed.result ≡ true = search rules in
    missed_found c.args.span.now c.args.nodes.now places c.loop-node.node p below c.loop-node.invariant
    (ap (is_missed_at c.args.span.now c.args.nodes.now c.loop-node.node) (sym p_is) ∙ (sym c.is_missed.ensures ∙ is))

pub loop-node-preserved : goal.loop-node-preserved
loop-node-preserved c =
    let places : List Place = c.args.places.now in
    let p : Place = c.index-places-node.result in
    let below : c.loop-node.node < length places = search rules in
    let p_is : p ≡ slice_index_or places c.loop-node.node p = search rules in
    let is : c.is_missed.result ≡ false = search rules in
    missed_more c.args.span.now c.args.nodes.now places c.loop-node.node p below c.loop-node.invariant
    (ap (is_missed_at c.args.span.now c.args.nodes.now c.loop-node.node) (sym p_is) ∙ (sym c.is_missed.ensures ∙ is))
