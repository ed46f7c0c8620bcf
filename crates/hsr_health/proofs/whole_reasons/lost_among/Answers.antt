use Rattle.std.proofs.Common.{arith}
use Rattle.hsr_health.specs.Told.{lost_at}
use Rattle.hsr_health.proofs.Finding.{range_sum}
use Rattle.hsr_health.proofs.whole_reasons.lost_among.Goals as goal

pub loop-i-preserved : goal.loop-i-preserved
loop-i-preserved c =
    let more = range_sum (lost_at c.args.losses.now c.args.is_asked.now) c.loop-i.i in
    omega (arith, more, c.lost_at.ensures, c.saturating_add-sum.ensures, c.loop-i.invariant)
