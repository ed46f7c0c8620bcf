use Rattle.hsr_judging_text.specs.Deviations.{observed_told}
use Rattle.hsr_judging_text.proofs.Copies.{range_grown}
use Rattle.hsr_judging_text.proofs.deviation.put_observed.Goals as goal

pub loop-k-preserved : goal.loop-k-preserved
loop-k-preserved c =
    range_grown (observed_told c.args.judgement.now) c.loop-k.k c.args.deviations.now.items c.loop-k.deviations.items _ c.loop-k.invariant c.in_ok-put_observed_at.ensures
