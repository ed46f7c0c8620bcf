use Rattle.hsr_tap_passages.specs.Shown.{count_at}
use Rattle.hsr_tap_passages.proofs.Steps.{counts_more}
use Rattle.hsr_tap_passages.proofs.passages.counts_of.Goals as goal

pub loop-interface-preserved : goal.loop-interface-preserved
loop-interface-preserved c =
    counts_more (count_at c.args.times.now c.args.start c.args.end c.args.packets.now) c.loop-interface.interface _ c.loop-interface.counts.items _
    c.count_at.ensures c.loop-interface.invariant c.in_ok-push.ensures.items
