use Rattle.std.proofs.Common.{rules}
use Rattle.std.proofs.lemmas.List.Sorted.{IsNonDecreasingBy-from_sort_by_key}
use Rattle.hsr_load.specs.Windows.{moment_in}
use Rattle.hsr_load.proofs.window.sort.Goals as goal

pub returns-clause-rise : goal.returns-clause-rise
returns-clause-rise c = IsNonDecreasingBy-from_sort_by_key moment_in _ c.sort_unstable_by_key.ensures.sorted (λ a r q k. search rules)
