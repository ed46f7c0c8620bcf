use Rattle.hsr_judging_text.proofs.Ordered.{ordered_by_sort}
use Rattle.hsr_judging_text.proofs.ports.sort.Goals as goal

pub returns : goal.returns
returns c = ordered_by_sort _ _ c.sort.ensures.permutation c.in_ok-sort.ensures.sorted
