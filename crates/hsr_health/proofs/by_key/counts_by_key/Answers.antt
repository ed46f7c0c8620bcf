use Rattle.std.proofs.Common.{subst, sym}
use Rattle.std.specs.List.Sorted.{IsNonDecreasing}
use Rattle.std.proofs.lemmas.List.Sorted.{IsNonDecreasingBy-from_sort}
use Rattle.hsr_health.specs.ByKey.{AreCountsOf}
use Rattle.hsr_health.proofs.Keying.{counts_of_sorted}
use Rattle.hsr_health.proofs.by_key.counts_by_key.Goals as goal

pub counts_of-requires : goal.counts_of-requires
counts_of-requires c = subst IsNonDecreasing (sym c.as_slice.ensures.value) (IsNonDecreasingBy-from_sort (λ x. x) c.sort.new.self.items c.in_ok-sort.ensures.sorted)

pub returns : goal.returns
returns c =
    counts_of_sorted c.args.keys.now.items c.sort.new.self.items c.in_ok-counts.counts.items c.in_ok-sort.ensures.permutation
    (subst (λ l. AreCountsOf l c.in_ok-counts.counts.items) c.as_slice.ensures.value c.in_ok-counts.ensures)
