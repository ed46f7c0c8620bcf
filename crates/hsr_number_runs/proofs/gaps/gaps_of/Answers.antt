use Rattle.std.proofs.Common.{arith}
use Rattle.hsr_number_runs.proofs.Standing.{gaps_more}
use Rattle.hsr_number_runs.proofs.gaps.gaps_of.Goals as goal

pub loop-behind-preserved : goal.loop-behind-preserved
loop-behind-preserved c = record {
  all = gaps_more c.loop-behind.gaps.items _ c.loop-behind.last c.args.in_runs.now c.loop-behind.behind-index _ _ (omega arith) c.in_ok-put_gap.ensures c.gap_in_front.ensures c.loop-behind.invariant.all;
}
