use Rattle.std.proofs.Common.{◌≡◌, ◌<◌, ◌+◌, ◌^◌, ◌++◌, ◌∷◌, [], ◌∙◌, ℕ, List, Option, None, ap, sym, cond, count_by, get_or, length, map, take, arith, rules}
use Rattle.std.specs.List.{range_with_len}
use Rattle.std.specs.Prelude.{option_map}
use Rattle.std.proofs.lemmas.List.{get_or-map, length-map, length-take, map-append}
use Rattle.std.proofs.lemmas.List.Sums.{count_by-le-length}
use Rattle.hsr_frame.proofs.OneMore.{counted_more, numbers_more}
use Rattle.hsr_node.specs.declared.event.Carried.{Carried}
use Rattle.hsr_run_index.specs.InOrder.{copy_of_passage}
use Rattle.hsr_timeline.specs.IndexedCopies.{found_at}
use Rattle.hsr_timeline.specs.Partners.{is_at, partner}
use Rattle.hsr_timeline.proofs.Placing.{found_partner}
use Rattle.hsr_timeline.proofs.partners.partners.Goals as goal

pub next_partner-requires : goal.next_partner-requires
next_partner-requires c = λ other.
    let ys : List (Option Carried) = map (copy_of_passage c.args.which c.args.dir) c.args.rows.now in
    let so_far = c.loop-j.invariant.counts other in
    let most = count_by-le-length (is_at other) (take c.loop-j.j ys) in
    let taken = length-take c.loop-j.j ys in
    let below = c.loop-j-test.true in
    let small : length c.args.rows.now < 2 ^ 64 = search rules in
    omega (arith, so_far, most, taken, below, small)

pub loop-j-preserved : goal.loop-j-preserved
loop-j-preserved c =
    let rows = c.args.rows.now in
    let ys : List (Option Carried) = map (copy_of_passage c.args.which c.args.dir) rows in
    let j = c.loop-j.j in
    let below = c.loop-j-test.true in
    let long = length-map rows (copy_of_passage c.args.which c.args.dir) in
    let below_ys : j < length ys = omega (arith, below, long) in
    let here : get_or ys j None ≡ copy_of_passage c.args.which c.args.dir c.index-rows-j.result =
    get_or-map (copy_of_passage c.args.which c.args.dir) rows j c.index-rows-j.result None below ∙ ap (copy_of_passage c.args.which c.args.dir) (sym c.index-rows-j.is) in
    let it = c.copy_of_passage.ensures ∙ sym here in
    let placed : c.in_ok-index.index ≡ partner c.args.copies.now ys j =
    c.in_ok-index.ensures.index
    ∙ (ap (λ (o : Option Carried). found_at c.in_ok-kept.kept c.loop-j.counts o) it
    ∙ found_partner c.in_ok-kept.kept c.loop-j.counts c.args.copies.now ys j c.in_ok-kept.ensures c.loop-j.invariant.counts (get_or ys j None)) in
    record {
      counts = λ copy.
          c.in_ok-index.ensures.counts copy
          ∙ (ap (λ (n : ℕ). n + cond (is_at copy (option_map (λ r. r.now) c.copy_of_passage.result)) 1 0) (c.loop-j.invariant.counts copy)
          ∙ (ap (λ (o : Option Carried). count_by (is_at copy) (take j ys) + cond (is_at copy o) 1 0) it ∙ sym (counted_more (is_at copy) ys j None below_ys)));
      indices =
          c.in_ok-push.ensures.items
          ∙ (ap (λ (ps : List (Option ℕ)). ps ++ c.in_ok-index.index ∷ []) c.loop-j.invariant.indices
          ∙ (ap (λ (p : Option ℕ). map (partner c.args.copies.now ys) (range_with_len 0 j) ++ p ∷ []) placed
          ∙ sym (ap (map (partner c.args.copies.now ys)) (numbers_more j) ∙ map-append (partner c.args.copies.now ys) (range_with_len 0 j) (j ∷ []))));
    }
