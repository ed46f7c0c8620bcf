use Rattle.std.proofs.Common.{◌+◌, ◌∙◌, ap, unwrap_or, arith}
use Rattle.indexmap.specs.Entry.{map_with_value}
use Rattle.std.proofs.lemmas.Grind.{common_steps}
use Rattle.hsr_deliveries.proofs.Counting.{one_counted}
use Rattle.hsr_deliveries.proofs.tally.count_one.Goals as goal

pub returns : goal.returns
returns c = λ other.
    let count = c.or_insert.result.now + 1 in
    let had = c.or_insert.ensures.value ∙ ap (λ o. unwrap_or o 0) c.in_ok-counts.ensures.value in
    let more = one_counted c.args.counts.now (map_with_value c.in_ok-counts.field-0 count) c.args.send count (ap (λ n. n + 1) had) (c.in_ok-counts.ensures.update.0 count) other in
    grind (arith, common_steps, more)
