use Rattle.std.proofs.Common.{rules}
use Rattle.std.proofs.lemmas.List.Sorted.{answers_always}
use Rattle.hsr_plan_schedule.proofs.meaning.sort.Goals as goal

pub returns : goal.returns
returns c = record {
  same = c.in_ok-sort_by_key.ensures.permutation;
  sorted_by = c.in_ok-sort_by_key.ensures.sorted (λ o. o.at) (answers_always _ _ _ (search rules));
  stable = c.in_ok-sort_by_key.ensures.stable (λ o. o.at) (answers_always _ _ _ (search rules));
}
