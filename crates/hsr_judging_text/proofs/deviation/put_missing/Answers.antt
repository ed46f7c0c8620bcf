use Rattle.hsr_judging_text.specs.Deviations.{missing_told}
use Rattle.hsr_judging_text.proofs.Copies.{range_grown}
use Rattle.hsr_judging_text.proofs.deviation.put_missing.Goals as goal

pub loop-i-preserved : goal.loop-i-preserved
loop-i-preserved c =
    range_grown (missing_told c.args.judgement.now) c.loop-i.i c.args.deviations.now.items c.loop-i.deviations.items _ c.loop-i.invariant c.in_ok-put_missing_at.ensures
