use Rattle.hsr_health.specs.Whole.{is_asked}
use Rattle.hsr_health.proofs.Finding.{range_more}
use Rattle.hsr_health.proofs.asked.asked_of.Goals as goal

pub loop-i-preserved : goal.loop-i-preserved
loop-i-preserved c = range_more (is_asked c.args.choice.now) c.loop-i.i c.loop-i.asked.items _ c.is_asked.result c.loop-i.invariant c.in_ok-push.ensures.items c.is_asked.ensures
