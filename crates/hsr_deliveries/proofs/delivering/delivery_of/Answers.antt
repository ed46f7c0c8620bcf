use Rattle.std.proofs.Common.{rules, ◌≡◌, ◌<◌, ◌&&◌, ◌==◌, ℕ, Bool, not, length, slice_index_or, ap, sym, ◌∙◌}
use Rattle.std.proofs.lemmas.List.{get_or_read}
use Rattle.hsr_node.specs.declared.place.Place.TheVariants.{QuadBox}
use Rattle.hsr_node.specs.declared.place.Place.{Place}
use Rattle.hsr_run_laws.specs.Run.{Run, place_of}
use Rattle.hsr_deliveries.specs.Counted.{added}
use Rattle.hsr_deliveries.specs.Delivered.{delivery_below, is_due, is_for}
use Rattle.hsr_deliveries.proofs.Gathering.{delivery_more}
use Rattle.hsr_deliveries.proofs.delivering.delivery_of.Goals as goal

pub loop-node-preserved : goal.loop-node-preserved
loop-node-preserved g c =
    let run : Run = c.args.traces.now in
    let k : ℕ = c.loop-node.node in
    let due : Bool = c.is_due-is_due.result in
    let place : Place = c.place-item.result in
    let below : k < length c.places-place-items.result.now = search rules in
    let read : place ≡ slice_index_or c.places-place-items.result.now k place = search rules in
    let is : place ≡ place_of run k = get_or_read c.places-place-items.result.now k place below read QuadBox ∙ ap (λ places. slice_index_or places k QuadBox) c.places-place-items.ensures.places in
    let old = delivery_below run c.args.send c.args.at c.args.dst c.args.ethertype k in
    let new : c.add.new.self ≡ added c.loop-node.delivery k due c.times.result = search rules in
    new
    ∙ ap (λ d. added d k due c.times.result) c.loop-node.invariant
    ∙ ap (λ b. added old k b c.times.result) (c.is_due-is_due.ensures ∙ ap (λ p. not (k == c.args.send.node) && is_for p c.args.dst c.args.ethertype) is)
    ∙ ap (λ n. added old k (is_due run c.args.send.node c.args.dst c.args.ethertype k) n) c.times.ensures
    ∙ sym (delivery_more run c.args.send c.args.at c.args.dst c.args.ethertype k)
