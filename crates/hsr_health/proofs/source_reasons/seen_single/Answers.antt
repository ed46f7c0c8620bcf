use Rattle.hsr_health.specs.Told.{saw_single}
use Rattle.hsr_health.proofs.Finding.{range_more}
use Rattle.hsr_health.proofs.source_reasons.seen_single.Goals as goal

pub loop-group-preserved : goal.loop-group-preserved
loop-group-preserved c =
    range_more (saw_single c.args.groups.now c.args.counts.now) c.loop-group.group c.loop-group.seen.items _ c.saw_single.result c.loop-group.invariant c.in_ok-push.ensures.items c.saw_single.ensures
