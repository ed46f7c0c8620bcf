use Rattle.std.proofs.Common.{◌-◌, nat_lt, arith, rules}
use Rattle.std.proofs.lemmas.List.Sorted.{IsPartitionPoint-from_clause, IsPartitionedBy-ltb}
use Rattle.hsr_table_demand.proofs.Crowding.{point_counts}
use Rattle.hsr_table_demand.proofs.windows.count_until_end.Goals as goal

pub returns : goal.returns
returns c =
    let parted = IsPartitionedBy-ltb (λ m. m - c.args.start) c.args.moments.now 800000 (λ i j d low below. omega (arith, c.requires i j d low below)) in
    point_counts (λ m. nat_lt (m - c.args.start) 800000) _ _ c.partition_point.ensures.bound
    (IsPartitionPoint-from_clause (λ m. nat_lt (m - c.args.start) 800000) _ _ c.partition_point.ensures.partitioned parted (λ a r q k. search rules))
