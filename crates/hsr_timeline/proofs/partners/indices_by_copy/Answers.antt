use Rattle.std.proofs.Common.{◌≡◌, ◌<◌, ◌++◌, ◌∷◌, [], ◌∙◌, ap, sym, cond, length, None, rules}
use Rattle.std.proofs.lemmas.List.{get_or_read}
use Rattle.hsr_timeline.specs.IndexedCopies.{indices_in}
use Rattle.hsr_timeline.specs.Partners.{is_at}
use Rattle.hsr_timeline.proofs.Placing.{indices_more}
use Rattle.hsr_timeline.proofs.partners.indices_by_copy.Goals as goal

pub loop-i-preserved : goal.loop-i-preserved
loop-i-preserved c = λ other.
    let below : c.loop-i.i < length c.args.copies.now = search rules in
    let here = get_or_read c.args.copies.now c.loop-i.i c.index-copies-i.result below c.index-copies-i.is None in
    let more : indices_in c.keep_if.new.kept other ≡ indices_in c.loop-i.kept other ++ cond (is_at other c.index-copies-i.result) (c.loop-i.i ∷ []) [] = search rules in
    more
    ∙ (ap (λ ps. ps ++ cond (is_at other c.index-copies-i.result) (c.loop-i.i ∷ []) []) (c.loop-i.invariant other)
    ∙ (ap (λ o. Rattle.hsr_timeline.specs.Partners.indices_below other c.args.copies.now c.loop-i.i ++ cond (is_at other o) (c.loop-i.i ∷ []) []) here ∙ sym (indices_more other c.args.copies.now c.loop-i.i)))
