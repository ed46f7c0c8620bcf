use Rattle.std.proofs.Common.{refl}
use Rattle.std.proofs.lemmas.Option.{slice_get-get_or}
use Rattle.hsr_health.specs.declared.reason.Word.TheVariants as the_word
use Rattle.hsr_health.proofs.Finding.{none_length, some_length}
use Rattle.hsr_health.proofs.Overtaking.{none_overtaken, some_overtaken}
use Rattle.hsr_health.proofs.copy_reasons.overtaken_reason.Goals as goal

pub returns-then-is_empty : goal.returns-then-is_empty
returns-then-is_empty c = λ are.
    none_overtaken the_word.Overtaken c.args.copies.now c.args.overtaken.now (none_length c.args.overtaken.now c.is_empty.result c.is_empty.ensures c.if-is_empty.true) are

pub returns : goal.returns
returns c = λ are.
    let found = c.args.overtaken.now in
    some_overtaken the_word.Overtaken c.args.copies.now found _ _ c.overtaken_at.result (slice_get-get_or found 0 _ (some_length found c.is_empty.result c.is_empty.ensures c.if-is_empty.false)) refl
    c.overtaken_at.ensures are
