use Rattle.std.proofs.Common.{nat_lt, rules}
use Rattle.std.proofs.lemmas.List.Sorted.{IsPartitionPoint-from_clause, IsPartitionedBy-ltb}
use Rattle.hsr_load.specs.Windows.{moment_in}
use Rattle.hsr_load.specs.declared.transit.Transit.{Transit}
use Rattle.hsr_load.proofs.Summing.{point_sum}
use Rattle.hsr_load.proofs.window.count_before.Goals as goal

pub returns-clause-sum : goal.returns-clause-sum
returns-clause-sum c =
    let parted = IsPartitionedBy-ltb moment_in _ c.args.start c.requires in
    point_sum (λ (t : Transit). nat_lt t.moment c.args.start) _ _ c.partition_point.ensures.bound
    (IsPartitionPoint-from_clause (λ (t : Transit). nat_lt t.moment c.args.start) _ _ c.partition_point.ensures.partitioned parted (λ a r q k. search rules))
