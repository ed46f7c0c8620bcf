use Rattle.std.proofs.Common.{◌++◌, ◌∷◌, [], ◌∙◌, ap, arith, unwrap_or}
use Rattle.indexmap.specs.Entry.{map_with_value}
use Rattle.indexmap.specs.IndexMap.{get_by}
use Rattle.std.proofs.lemmas.Grind.{common_steps}
use Rattle.hsr_run_index.proofs.Counting.{is_same_key}
use Rattle.hsr_timeline.proofs.Placing.{found, items_kept, one_kept}
use Rattle.hsr_timeline.specs.IndexedCopies.{items_if}
use Rattle.hsr_timeline.proofs.partners.keep.Goals as goal

pub returns : goal.returns
returns c = λ other.
    let indices = c.push.new.self in
    let key = c.key_of.result in
    let had = ap (λ v. v.items) c.or_insert.ensures.value ∙ ap (λ o. (unwrap_or o c.new.result).items) c.in_ok-kept.ensures.value
    ∙ (items_kept (get_by (is_same_key key) c.args.kept.now) c.new.result c.new.ensures.items ∙ ap items_if (found c.args.kept.now c.args.copy.now key c.key_of.ensures.send c.key_of.ensures.octets)) in
    let more = one_kept c.args.kept.now (map_with_value c.in_ok-kept.field-0 indices) c.args.copy.now key c.args.index indices c.key_of.ensures.send c.key_of.ensures.octets
    (c.in_ok-push.ensures.items ∙ ap (λ ls. ls ++ c.args.index ∷ []) had) (c.in_ok-kept.ensures.update.0 indices) other in
    grind (arith, common_steps, more)
