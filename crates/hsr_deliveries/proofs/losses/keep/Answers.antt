use Rattle.std.proofs.Common.{◌++◌, ◌∷◌, [], ◌∙◌, ap, arith}
use Rattle.indexmap.specs.Entry.{map_with_value}
use Rattle.std.proofs.lemmas.Grind.{common_steps}
use Rattle.hsr_deliveries.specs.Counted.{value_of}
use Rattle.hsr_deliveries.proofs.Counting.{items_kept, one_kept}
use Rattle.hsr_deliveries.proofs.losses.keep.Goals as goal

pub returns : goal.returns
returns c = λ other.
    let losses = c.push.new.self in
    let had = ap (λ v. v.items) c.or_insert.ensures.value ∙ ap (λ o. (Rattle.std.specs.Prelude.unwrap_or o c.new.result).items) c.in_ok-kept.ensures.value ∙ items_kept (value_of c.args.kept.now c.args.send) c.new.result c.new.ensures.items in
    let more = one_kept c.args.kept.now (map_with_value c.in_ok-kept.field-0 losses) c.args.send c.args.loss losses (c.in_ok-push.ensures.items ∙ ap (λ ls. ls ++ c.args.loss ∷ []) had) (c.in_ok-kept.ensures.update.0 losses) other in
    grind (arith, common_steps, more)
