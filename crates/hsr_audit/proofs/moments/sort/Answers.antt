use Rattle.std.proofs.lemmas.List.Sorted.{IsNonDecreasingBy-from_sort}
use Rattle.hsr_audit.proofs.moments.sort.Goals as goal

pub returns-clause-rise : goal.returns-clause-rise
returns-clause-rise c = IsNonDecreasingBy-from_sort (λ m. m) c.sort_unstable.new.self.items c.sort_unstable.ensures.sorted
