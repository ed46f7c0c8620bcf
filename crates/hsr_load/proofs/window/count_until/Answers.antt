use Rattle.std.proofs.Common.{◌-◌, nat_lt, arith, rules}
use Rattle.std.proofs.lemmas.List.Sorted.{IsPartitionPoint-from_clause, IsPartitionedBy-ltb}
use Rattle.hsr_load.specs.declared.transit.Transit.{Transit}
use Rattle.hsr_load.proofs.Summing.{point_sum}
use Rattle.hsr_load.proofs.window.count_until.Goals as goal

pub returns-clause-sum : goal.returns-clause-sum
returns-clause-sum c =
    let parted = IsPartitionedBy-ltb (λ (t : Transit). t.moment - c.args.start) c.args.transits.now 1000 (λ i j d low below. let up = c.requires i j d low below in omega (arith, up)) in
    point_sum (λ (t : Transit). nat_lt (t.moment - c.args.start) 1000) _ _ c.partition_point.ensures.bound
    (IsPartitionPoint-from_clause (λ (t : Transit). nat_lt (t.moment - c.args.start) 1000) _ _ c.partition_point.ensures.partitioned parted (λ a r q k. search rules))
