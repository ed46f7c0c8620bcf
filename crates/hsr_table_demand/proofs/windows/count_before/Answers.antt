use Rattle.std.proofs.Common.{nat_lt, rules}
use Rattle.std.proofs.lemmas.List.Sorted.{IsPartitionPoint-from_clause, IsPartitionedBy-ltb}
use Rattle.hsr_table_demand.proofs.Crowding.{point_counts}
use Rattle.hsr_table_demand.proofs.windows.count_before.Goals as goal

pub returns : goal.returns
returns c =
    let parted = IsPartitionedBy-ltb (λ m. m) _ c.args.start c.requires in
    point_counts (λ m. nat_lt m c.args.start) _ _ c.partition_point.ensures.bound
    (IsPartitionPoint-from_clause (λ m. nat_lt m c.args.start) _ _ c.partition_point.ensures.partitioned parted (λ a r q k. search rules))
