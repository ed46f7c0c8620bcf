use Rattle.std.proofs.Common.{◌≡◌, ◌<◌, ◌+◌, ◌∙◌, ℕ, List, Option, None, refl, ap, sym, subst, get_or, length, map, arith}
use Rattle.std.proofs.lemmas.List.{get_or-map, length-map}
use Rattle.hsr_node.specs.Record.{Owner}
use Rattle.hsr_node.specs.declared.event.Carried.{Carried}
use Rattle.hsr_run_index.specs.InOrder.{copy_of_passage}
use Rattle.hsr_run_index.specs.declared.agreement.Passage.TheVariants.{Put}
use Rattle.hsr_timeline.specs.Hops.{passed_from}
use Rattle.hsr_timeline.specs.Walk.{IsStep, IsWalked}
use Rattle.hsr_timeline.proofs.Walked.{walked_more}
use Rattle.hsr_timeline.proofs.walk.places_walked.Goals as goal

pub loop-j-preserved : goal.loop-j-preserved
loop-j-preserved c =
    let owner : Owner = record { number = c.args.number; place = c.args.place.now } in
    let rows = c.args.rows.now in
    let xs : List (Option Carried) = passed_from owner c.args.port 0 c.args.entries.now in
    let ys : List (Option Carried) = map (copy_of_passage Put c.args.dir) rows in
    let j : ℕ = c.loop-j.j in
    let below = c.loop-j-test.true in
    let long = length-map rows (copy_of_passage Put c.args.dir) in
    let below_ys : j < length ys = omega (arith, below, long) in
    let here : get_or ys j None ≡ copy_of_passage Put c.args.dir c.index-rows-j.result =
    get_or-map (copy_of_passage Put c.args.dir) rows j c.index-rows-j.result None below ∙ ap (copy_of_passage Put c.args.dir) (sym c.index-rows-j.is) in
    let is_step = subst (λ (o : Option Carried). IsStep xs c.loop-j.from o c.in-Some.step) (c.copy_of_passage-copy.ensures ∙ sym here) c.in-Some.ensures in
    subst (λ (ps : List (Option ℕ)). IsWalked xs ys c.in-Some.step.next (j + 1) ps) (sym c.in_ok-push.ensures.items)
    (walked_more xs ys c.loop-j.from j c.loop-j.places.items below_ys c.loop-j.invariant (get_or ys j None) c.in-Some.step refl is_step)
